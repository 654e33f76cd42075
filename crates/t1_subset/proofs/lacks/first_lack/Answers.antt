use Rattle.std.proofs.Common.{sym, ◌∙◌}
use Rattle.t1_subset.proofs.Lacking.{same_subrs_lack_none}
use Rattle.t1_subset.proofs.lacks.first_lack.Goals as goal

pub returns-then-have_same_subrs-clause-lack : goal.returns-then-have_same_subrs-clause-lack
returns-then-have_same_subrs-clause-lack c =
    sym (same_subrs_lack_none c.first-item.result c.args.fonts.now (sym c.have_same_subrs.ensures ∙ c.if-have_same_subrs.true))
