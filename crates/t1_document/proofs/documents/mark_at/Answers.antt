use Rattle.std.proofs.Common.{List, ℕ, ap, ◌∙◌}
use Rattle.t1_document.{specs.Marks.{mark_of}, proofs.StretchLemmas.{mark_next}}
use Rattle.t1_document.proofs.documents.mark_at.Goals as goal

pub returns : goal.returns
returns c = c.mark_of.ensures ∙ (ap (λ (x : List ℕ × List ℕ). mark_of x.0) c.line_of.ensures ∙ mark_next c.args.bytes.now c.requires)
