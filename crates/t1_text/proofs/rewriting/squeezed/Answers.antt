use Rattle.std.proofs.Common.{Bool, true, false, cond, suc, ◌≤◌, length, arith, [], ◌∷◌, List, ℕ, sym, ap, subst, ◌∙◌, ◌++◌, take, drop}
use Rattle.t1_text.specs.Squeezing.{stays, staying, squeezed}
use Rattle.t1_text.proofs.RewritingLemmas.{SqueezedSoFar, squeezed_on, squeezed_less, all_squeezed}
use Rattle.t1_text.proofs.rewriting.squeezed.Goals as goal

pub runs-init : goal.runs-init
runs-init c = ap (λ (u : List ℕ). u ++ squeezed c.args.text.now) c.in_ok-new.ensures.items

-- no more bytes stay than there are
staying_within : (t : List ℕ) → staying t ≤ length t
staying_within [] = omega arith
staying_within (b ∷ bs) = by_first (stays b bs) (staying_within bs)
  where
    by_first : (x : Bool) → staying bs ≤ length bs → cond x (suc (staying bs)) 0 ≤ length (b ∷ bs)
    by_first true h = omega (arith, h)
    by_first false h = omega arith

pub split_at-requires : goal.split_at-requires
split_at-requires c = subst (λ (n : ℕ). n ≤ length c.runs.rest.now) (sym c.staying.ensures) (staying_within c.runs.rest.now)

pub runs-smaller : goal.runs-smaller
runs-smaller c =
    squeezed_less c.args.text.now c.runs.new.items c.runs.rest.now c.split_at.result.0.now c.split_at.result.1.now c.squeezed_piece.result.0.now
    c.squeezed_piece.result.1.now (sym c.is_empty.ensures ∙ c.runs-test.true)
    (c.split_at.ensures.front ∙ ap (λ (n : ℕ). take n c.runs.rest.now) c.staying.ensures)
    (c.split_at.ensures.back ∙ ap (λ (n : ℕ). drop n c.runs.rest.now) c.staying.ensures) c.squeezed_piece.ensures

pub runs-preserved : goal.runs-preserved
runs-preserved c =
    subst (λ (out : List ℕ). SqueezedSoFar c.args.text.now out c.squeezed_piece.result.1.now)
    (ap (λ (u : List ℕ). u ++ c.squeezed_piece.result.0.now) (sym c.in_ok-extend_from_slice.ensures.items) ∙ sym c.in_ok-extend_from_slice-2.ensures.items)
    (squeezed_on c.args.text.now c.runs.new.items c.runs.rest.now c.split_at.result.0.now c.split_at.result.1.now c.squeezed_piece.result.0.now
    c.squeezed_piece.result.1.now (sym c.is_empty.ensures ∙ c.runs-test.true)
    (c.split_at.ensures.front ∙ ap (λ (n : ℕ). take n c.runs.rest.now) c.staying.ensures)
    (c.split_at.ensures.back ∙ ap (λ (n : ℕ). drop n c.runs.rest.now) c.staying.ensures) c.squeezed_piece.ensures c.runs.invariant)

pub returns : goal.returns
returns c =
    all_squeezed c.args.text.now c.runs.new.items c.runs.rest.now (sym c.is_empty.ensures ∙ c.runs-test.false) c.runs.invariant
