use Rattle.std.proofs.Common.{◌∙◌}
use Rattle.t1_subset.{specs.NameSets.{lent}, proofs.closing.Closures.{has_notdef, of_font, cut_is, draws}}
use Rattle.t1_subset.proofs.subsets.subset_within.Goals as goal

pub restrict-requires-clause-known : goal.restrict-requires-clause-known
restrict-requires-clause-known c = of_font c.args.font.now c.proof_is_font.ensures
    (lent c.args.names.now) c.in-Ok.ensures.present _ _ c.as_slice.ensures.value c.in-Ok.ensures.names

pub restrict-requires-clause-notdef : goal.restrict-requires-clause-notdef
restrict-requires-clause-notdef c = has_notdef c.args.font.now c.proof_is_font.ensures
    (lent c.args.names.now) c.in-Ok.ensures.present _ _ c.as_slice.ensures.value c.in-Ok.ensures.names

pub returns-in-Ok-restrict-clause-ok : goal.returns-in-Ok-restrict-clause-ok
returns-in-Ok-restrict-clause-ok c = c.in-Ok-restrict.ensures ∙ cut_is c.args.font.now c.proof_is_font.ensures (lent c.args.names.now)
    c.in-Ok.ensures.present _ _ c.as_slice.ensures.value c.in-Ok.ensures.names c.in-Ok.closure.subrs c.in-Ok.ensures.subrs

pub returns-in-Ok-restrict-clause-draws : goal.returns-in-Ok-restrict-clause-draws
returns-in-Ok-restrict-clause-draws c =
    draws c.args.font.now c.proof_is_font.ensures (lent c.args.names.now) c.in-Ok.ensures.present c.in-Ok-restrict.font
    (c.in-Ok-restrict.ensures ∙ cut_is c.args.font.now c.proof_is_font.ensures (lent c.args.names.now)
    c.in-Ok.ensures.present _ _ c.as_slice.ensures.value c.in-Ok.ensures.names c.in-Ok.closure.subrs c.in-Ok.ensures.subrs)
