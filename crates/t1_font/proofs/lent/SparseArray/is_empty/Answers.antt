use Rattle.std.{proofs.Common.{ap, ◌∙◌}, specs.{Prelude.{◌==◌}, FinMap.{entries, len-entries}}}
use Rattle.t1_font.proofs.normal_fonts.Filled.{none_counted}
use Rattle.t1_font.proofs.lent.SparseArray.is_empty.Goals as goal

pub returns : goal.returns
returns c = ap (λ n. n == 0) (c.len.ensures ∙ len-entries c.args.self.now) ∙ none_counted (entries c.args.self.now)
