-- What is taken out of budgets for fonts of which the first lack is sought.
use Rattle.std.proofs.Common.{◌≡◌, refl, sym, ap, subst, ◌∙◌, ◌+◌, ◌<◌, ◌≤◌, ℕ, inl, inr, true, false, cond, List, [], ◌∷◌, drop, length, get_or}
use Rattle.std.proofs.{Common.{Option, Some, None, Err, IfErr, arith}, lemmas.List.{drop_more, drop_all}}
use Rattle.std.specs.Option.{is_some}
use Rattle.t1_run.{specs.Budgets.{HasFewer, Spends}, proofs.Taken.{spends_nothing, spends_then, fewer_then}}
use Rattle.t1_font.specs.FontValue.{FontValue}
use Rattle.t1_algebra.specs.{Lacks.{Lack, lack_in}}
use Rattle.t1_subset.specs.{declared.fault.RejoinFault.{RejoinFault}, declared.fault.RejoinFault.TheVariants.{Lacks, Merge}, declared.budgets.BudgetFault.{BudgetFault}}
use Rattle.t1_subset.specs.{declared.budgets.BudgetFault.TheVariants.{TooManyTokens, Plain}, declared.conflict.Conflict.TheVariants.{Memory}}
use Rattle.t1_subset.specs.Budgets.{font_tokens, tokens_to_lack, rejoin_tokens, lack_tokens, IsEnough, RefusedWithin, OnPlain}
use Rattle.t1_subset.specs.{Rejoins.{TellsLack}, Lacks.{have_same_subrs}}
use Rattle.t1_subset.proofs.Tokens.{spends_as, spends_enough, enough_then, fewer_than_more, none_enough}

module _ (fs : List FontValue) where
  -- What was taken so far, where the fonts before a place lack nothing.
  pub record SoughtSoFar (i : ℕ) (old new : Option ℕ) : Type 0 where
    pub spent : ℕ
    pub are : spent + tokens_to_lack fs (drop i fs) ≡ rejoin_tokens fs
    pub takes : Spends spent old new

  -- before anything is taken
  pub sought_starts : (budget : Option ℕ) → SoughtSoFar 0 budget budget
  sought_starts budget = record {
    spent = 0;
    are = let e : tokens_to_lack fs (drop 0 fs) ≡ rejoin_tokens fs = refl in omega (arith, e);
    takes = spends_nothing budget;
  }

  module _ (i : ℕ) (x : FontValue) (old mid : Option ℕ) (room : i < length fs) (is : x ≡ get_or fs i x) (h : SoughtSoFar i old mid) where
    abbrev behind : Option Lack → ℕ
    behind lack = cond (is_some lack) 0 (tokens_to_lack fs (drop (i + 1) fs))

    of_next : tokens_to_lack fs (drop i fs) ≡ font_tokens x + behind (lack_in fs x)
    unfolding tokens_to_lack
    of_next = ap (tokens_to_lack fs) (drop_more fs i x room ∙ ap (λ (f : FontValue). f ∷ drop (i + 1) fs) (sym is))

    -- the next lacks nothing, and takes its part
    pub sought_more : (new : Option ℕ) → lack_in fs x ≡ None → Spends (font_tokens x) mid new → SoughtSoFar (i + 1) old new
    sought_more new none k = record {
      spent = h.spent + font_tokens x;
      are = let e = of_next in let rest : behind (lack_in fs x) ≡ behind None = ap behind none in omega (arith, e, rest, h.are);
      takes = spends_then h.spent (font_tokens x) old mid new h.takes k;
    }

    -- too little is left for the next
    pub sought_refused : HasFewer mid (font_tokens x) → HasFewer old (rejoin_tokens fs)
    sought_refused k =
        let e = of_next in
        fewer_than_more (h.spent + font_tokens x) (rejoin_tokens fs) old (omega (arith, e, h.are)) (fewer_then h.spent (font_tokens x) old mid h.takes k)

    -- the next lacks something, and what it takes is allowed
    pub sought_enough : (l : Lack) → lack_in fs x ≡ Some l → IsEnough mid (font_tokens x) → IsEnough old (rejoin_tokens fs)
    sought_enough l some k =
        let e = of_next in
        let rest : behind (lack_in fs x) ≡ behind (Some l) = ap behind some in
        let all : h.spent + font_tokens x ≡ rejoin_tokens fs = omega (arith, e, rest, h.are) in
        subst (IsEnough old) all (enough_then h.spent (font_tokens x) old mid h.takes k)

    -- a refusal of the next is one of all
    pub sought_stops : (A : Type 0) (e : BudgetFault RejoinFault) → OnPlain {A = A} (Err e) (λ r. IfErr r (λ e. TellsLack e (lack_in fs x))) →
        RefusedWithin (Merge Memory) mid (font_tokens x) e → RefusedWithin (Merge Memory) old (rejoin_tokens fs) e
    sought_stops A TooManyTokens tells k = sought_refused k
    sought_stops A (Plain (Merge e)) tells k = inl (ap (λ x. Merge x) tells)
    sought_stops A (Plain (Lacks glyph index)) tells (inl k) = inl k
    sought_stops A (Plain (Lacks glyph index)) tells (inr k) = inr (sought_enough _ tells k)

  -- behind all fonts nothing more is taken
  nothing_behind : (i : ℕ) → length fs ≤ i → tokens_to_lack fs (drop i fs) ≡ 0
  unfolding tokens_to_lack
  nothing_behind i past = ap (tokens_to_lack fs) (drop_all i fs past)

  -- so what was taken is all
  pub sought_ends : (i : ℕ) (old new : Option ℕ) → length fs ≤ i → SoughtSoFar i old new → IsEnough old (rejoin_tokens fs)
  sought_ends i old new past h =
      let e = nothing_behind i past in
      spends_enough (rejoin_tokens fs) old new (spends_as h.spent (rejoin_tokens fs) old new (omega (arith, e, h.are)) h.takes)

-- fonts that have Subrs at the same indices are not run
pub same_enough : (left : Option ℕ) (f : FontValue) (fs : List FontValue) → have_same_subrs f (f ∷ fs) ≡ true → IsEnough left (lack_tokens (f ∷ fs))
same_enough left f fs same = subst (λ b. IsEnough left (cond b 0 (rejoin_tokens (f ∷ fs)))) (sym same) (none_enough left)

-- other fonts are run up to the first lack
pub other_tokens : (f : FontValue) (fs : List FontValue) → have_same_subrs f (f ∷ fs) ≡ false → lack_tokens (f ∷ fs) ≡ rejoin_tokens (f ∷ fs)
other_tokens f fs other = ap (λ b. cond b 0 (rejoin_tokens (f ∷ fs))) other

-- no fonts are rejoined without a run
pub none_rejoined : (left : Option ℕ) (fs : List FontValue) → length fs ≡ 0 → IsEnough left (rejoin_tokens fs)
unfolding tokens_to_lack
none_rejoined left [] none = none_enough left
none_rejoined left (f ∷ fs) none = absurd (omega (arith, none))
