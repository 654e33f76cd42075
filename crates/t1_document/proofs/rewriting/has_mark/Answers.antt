use Rattle.std.proofs.Common.{ℕ, ltb, length, ap, ◌∙◌}
use Rattle.t1_document.proofs.StretchLemmas.{mark_test}
use Rattle.t1_document.proofs.rewriting.has_mark.Goals as goal

pub returns : goal.returns
returns c = ap (λ (n : ℕ). ltb n (length c.args.text.now)) c.unmarked_len.ensures ∙ mark_test c.args.text.now
