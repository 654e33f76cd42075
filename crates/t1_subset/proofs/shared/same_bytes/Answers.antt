use Rattle.std.proofs.{Common.{sym, ◌∙◌}, lemmas.Map.Text.{is_eq-slice_cmp}}
use Rattle.t1_subset.proofs.shared.same_bytes.Goals as goal

pub returns : goal.returns
returns c = c.eq.ensures ∙ sym (is_eq-slice_cmp c.args.left.now c.args.right.now)
