-- All conflicts of two fonts: there are none exactly if the fonts join, the first is the lowest, and they are the same in both orders.
use Rattle.std.proofs.Common.{◌≡◌, ◌↔◌, ◌&&◌, ℕ, Bool, true, false, cond, not, List, [], ◌∷◌, ◌++◌, map, filter, refl, sym, ◌∙◌, ap, true≢false, Some, None, is_some, unwrap_or, nat_le}
use Rattle.std.proofs.Math.Bool.{or_comm}
use Rattle.std.specs.List.{find}
use Rattle.t1_font.specs.FontValue.{FontValue, weight, weight_limit, count_limit}
use Rattle.t1_algebra.specs.Conflicts.{Conflict, ShellDiffers, CodeDiffers, GlyphDiffers, LacksComponent, SubrDiffers, OverLimit, codes_of_both, wants, is_within, code_clashes, glyph_clashes}
use Rattle.t1_algebra.specs.Conflicts.{glyphs_of_both, component_clashes, subr_clashes, lacks_component, subr_differs, keys_of_both, shell_conflict, code_conflict, glyph_conflict}
use Rattle.t1_algebra.specs.{Conflicts.{component_conflict, states_conflict, conflict, states_conflicts, conflicts}, Searches.{members, smallest, passing, first_of, or_else, found}}
use Rattle.t1_algebra.specs.{Shared.{shared_of, same_part, all_parts}, Keep.{has}, States.{code_state, subr_state, executes, Join}}
use Rattle.t1_algebra.specs.Laws.{ConflictsAreAll}
use Rattle.t1_algebra.proofs.{Words.{list_any, nat_cmp_total, nat_list_cmp_total, nat_cmp-IsAntisymmetric, Interpreter}, Sets.{name_same, cases}, Maps.{both_back}, Shares.{part_back}}
use Rattle.t1_algebra.proofs.{JoinedStates.{font_back}, Conflicts.{agrees_swap, compatible, no_conflict}}
use Rattle.std.specs.FinMap as maps

-- ---- the first of all

module _ {X Y : Type 0} (p : X → Bool) (f : X → Y) where
  -- the first of those that pass, and of what stands behind them, is the first that passes, or else the first behind them
  first_found : (xs : List X) (ys : List Y) → first_of (map f (filter p xs) ++ ys) ≡ found f (find p xs) (first_of ys)
  first_found [] ys = refl
  first_found (x ∷ xs) ys = elim (p x)
      as (λ b. first_of (map f (cond b (x ∷ filter p xs) (filter p xs)) ++ ys) ≡ found f (cond b (Some x) (find p xs)) (first_of ys))
      [ true ↦ refl | false ↦ first_found xs ys ]

  -- the same where nothing stands behind them
  first_alone : (xs : List X) → first_of (map f (filter p xs)) ≡ found f (find p xs) None
  first_alone [] = refl
  first_alone (x ∷ xs) = elim (p x)
      as (λ b. first_of (map f (cond b (x ∷ filter p xs) (filter p xs))) ≡ found f (cond b (Some x) (find p xs)) None)
      [ true ↦ refl | false ↦ first_alone xs ]

-- the first of a list, or else of another
first_or : {X : Type 0} (xs ys : List X) → first_of (or_else xs ys) ≡ found (λ x. x) (first_of xs) (first_of ys)
first_or [] ys = refl
first_or (x ∷ xs) ys = refl

-- a list without a first element is empty
none_first : {X : Type 0} (xs : List X) → first_of xs ≡ None → xs ≡ []
none_first [] h = refl
none_first (x ∷ xs) h = absurd (true≢false (ap is_some h))

module _ {O : Type 0} (m : Interpreter O) (f g : FontValue) where
  -- the first of all conflicts of states is the lowest
  pub first_of_states : first_of (states_conflicts m f g) ≡ states_conflict m f g
  first_of_states =
      let components = passing (component_clashes m f g) (glyphs_of_both f g) in
      let subrs = passing (subr_clashes m f g) (keys_of_both f.subrs g.subrs) in
      let last = map (lacks_component m f g) components ++ map (subr_differs m f g) subrs in
      let glyphs = map GlyphDiffers (passing (glyph_clashes f g) (glyphs_of_both f g)) ++ last in
      let codes = map CodeDiffers (passing (code_clashes f g) (codes_of_both f.encoding g.encoding)) ++ glyphs in
      first_found (λ part. not (same_part (shared_of f) (shared_of g) part)) ShellDiffers all_parts codes
      ∙ ap (found ShellDiffers (shell_conflict f g)) (first_found (code_clashes f g) CodeDiffers (members (codes_of_both f.encoding g.encoding)) glyphs
      ∙ ap (found CodeDiffers (code_conflict f g)) (first_found (glyph_clashes f g) GlyphDiffers (members (glyphs_of_both f g)) last
      ∙ ap (found GlyphDiffers (glyph_conflict f g)) (first_found (component_clashes m f g) (lacks_component m f g) (members (glyphs_of_both f g))
      (map (subr_differs m f g) subrs)
      ∙ ap (found (lacks_component m f g) (component_conflict m f g))
      (first_alone (subr_clashes m f g) (subr_differs m f g) (members (keys_of_both f.subrs g.subrs))))))

  limit_first : (b : Bool) → first_of (cond b [] (OverLimit ∷ [])) ≡ cond b None (Some OverLimit)
  limit_first true = refl
  limit_first false = refl

  -- the first of all conflicts is the lowest
  lowest_first : conflict m f g ≡ first_of (conflicts m f g)
  lowest_first = sym (first_or (states_conflicts m f g) (cond (is_within m f g) [] (OverLimit ∷ []))
      ∙ (λ i. found (λ c. c) (first_of_states i) (limit_first (is_within m f g) i)))

  -- there are no conflicts exactly if the fonts join
  none_or_join : (conflicts m f g ≡ []) ↔ Join m f g
  none_or_join = (
    λ h. (no_conflict m f g).0 (lowest_first ∙ ap first_of h),
    λ j. none_first (conflicts m f g) (sym lowest_first ∙ (no_conflict m f g).1 j),
  )

-- ---- both orders

module _ {O : Type 0} (m : Interpreter O) (f g : FontValue) where
  -- all conflicts of states are the same in both orders
  states_back : states_conflicts m f g ≡ states_conflicts m g f
  states_back =
      let codes : codes_of_both f.encoding g.encoding ≡ codes_of_both g.encoding f.encoding =
      grind (cases, both_back nat_cmp_total nat_cmp-IsAntisymmetric {X = List ℕ}) in
      let names = both_back nat_list_cmp_total name_same f.glyphs g.glyphs in
      let wanted = λ (p n : List ℕ). or_comm (wants m f n p) (wants m g n p) in
      λ i.
      map ShellDiffers (filter (λ part. not (part_back (shared_of f) (shared_of g) part i)) all_parts)
      ++ (map CodeDiffers (passing (λ c. not (agrees_swap (code_state f.encoding c) (code_state g.encoding c) i)) (codes i))
      ++ (map GlyphDiffers (passing (λ n. not (agrees_swap (maps.get f.glyphs n) (maps.get g.glyphs n) i)) (names i))
      ++ (map (λ p. LacksComponent (unwrap_or (smallest (λ n. wanted p n i) (names i)) []) p)
      (passing (λ p. or_comm (has f p) (has g p) i && list_any (λ n. wanted p n i) (members (names i))) (names i))
      ++ map (λ k. SubrDiffers k (smallest (λ n. or_comm (executes m f n k) (executes m g n k) i) (names i)))
      (passing (λ k. not (agrees_swap (subr_state m f k) (subr_state m g k) i)) (both_back nat_cmp_total nat_cmp-IsAntisymmetric f.subrs g.subrs i)))))

  -- without a conflict of states, the limits are met in both orders or in none
  within_back : states_conflicts m f g ≡ [] → is_within m f g ≡ is_within m g f
  within_back h = ap (λ j. nat_le (weight j) weight_limit && nat_le (maps.len j.glyphs) count_limit)
      (font_back m f g (compatible m f g (sym (first_of_states m f g) ∙ ap first_of h)))

  -- all conflicts are the same in both orders
  conflicts_back : conflicts m f g ≡ conflicts m g f
  conflicts_back = by (states_conflicts m f g) refl
    where
      by : (cs : List Conflict) → states_conflicts m f g ≡ cs → conflicts m f g ≡ conflicts m g f
      by [] h = λ i. or_else (states_back i) (cond (within_back h i) [] (OverLimit ∷ []))
      by (c ∷ cs) h = ap (λ x. or_else x (cond (is_within m f g) [] (OverLimit ∷ []))) h
          ∙ sym (ap (λ x. or_else x (cond (is_within m g f) [] (OverLimit ∷ []))) (sym states_back ∙ h))

-- what holds of all conflicts
pub all_conflicts : {O : Type 0} (m : Interpreter O) → ConflictsAreAll m
all_conflicts m f g = (none_or_join m f g, lowest_first m f g, conflicts_back m f g)
