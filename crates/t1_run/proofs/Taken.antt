-- What is taken out of budgets.
use Rattle.std.proofs.Common.{◌≡◌, sym, ap, ◌∙◌, Bool, true, false, not, cond, ℕ, ◌+◌, List, Option, Some, None, arith}
use Rattle.t1_run.specs.{declared.answer.Hints.TheVariants.{Replaced, Kept}, Run.{Subrs}}
use Rattle.t1_run.specs.Budgets.{tokens_by, replaces_hints, tokens_of, Spends, HasFewer}

-- nothing
pub spends_nothing : (left : Option ℕ) → Spends 0 left left
spends_nothing None = tt
spends_nothing (Some left) = omega arith

-- more tokens, after others
pub spends_then : (a b : ℕ) (old mid new : Option ℕ) → Spends a old mid → Spends b mid new → Spends (a + b) old new
spends_then a b None None None h k = tt
spends_then a b None None (Some new) h k = k
spends_then a b None (Some mid) new h k = absurd h
spends_then a b (Some old) None new h k = absurd h
spends_then a b (Some old) (Some mid) None h k = k
spends_then a b (Some old) (Some mid) (Some new) h k = omega (arith, h, k)

-- what is left after some tokens is too little for others, so what there was is for both
pub fewer_then : (a b : ℕ) (old mid : Option ℕ) → Spends a old mid → HasFewer mid b → HasFewer old (a + b)
fewer_then a b None None h k = k
fewer_then a b None (Some mid) h k = absurd h
fewer_then a b (Some old) None h k = absurd h
fewer_then a b (Some old) (Some mid) h k = omega (arith, h, k)

module _ (subrs : Subrs) (c : List ℕ) (one : Bool) (told : one ≡ not (replaces_hints Replaced subrs c)) where
  abbrev taken_by : Bool → ℕ
  taken_by replaces = tokens_by Replaced subrs c + cond replaces (tokens_by Kept subrs c) 0

  replaced_by : (a b : Bool) → a ≡ not b → b ≡ not a
  replaced_by a true h = ap not (sym h)
  replaced_by a false h = ap not (sym h)

  -- a charstring that replaces no hints takes the tokens of one run
  pub tokens_of_one : one ≡ true → tokens_of subrs c ≡ tokens_by Replaced subrs c
  tokens_of_one is =
      let none : replaces_hints Replaced subrs c ≡ false = replaced_by one (replaces_hints Replaced subrs c) told ∙ ap not is in
      let all : taken_by (replaces_hints Replaced subrs c) ≡ taken_by false = ap taken_by none in
      omega (arith, all)

  -- one that replaces hints takes those of both
  pub tokens_of_two : one ≡ false → tokens_of subrs c ≡ tokens_by Replaced subrs c + tokens_by Kept subrs c
  tokens_of_two is =
      let some : replaces_hints Replaced subrs c ≡ true = replaced_by one (replaces_hints Replaced subrs c) told ∙ ap not is in
      ap taken_by some
