-- When some glyph of a font executes an index or names a component.
use Rattle.std.{proofs.{Common.{◌≡◌, ℕ, Bool, true, ◌||◌, inl, inr, List, sym, ◌∙◌, Option, is_some}, lemmas.Bool.{or_cases, or_left, or_right}}, specs.Cmp.{both_ways}}
use Rattle.t1_font.specs.FontValue.{FontValue, names_in}
use Rattle.t1_algebra.specs.{Keep.{has}, States.{executed_at, executes, called_at, calls_for, is_called, is_sought}}
use Rattle.t1_algebra.proofs.{Words.{list_any, nat_list_cmp_total, Interpreter}, Sets.{name_same, any_one, any_at, cases}}
use Rattle.std.specs.FinMap as maps

module _ (p : FontValue → List ℕ → Bool) (there : (h : FontValue) (n : List ℕ) → p h n ≡ true → has h n ≡ true) where
  -- what holds of a glyph holds of some glyph
  some : (h : FontValue) (n : List ℕ) → p h n ≡ true → list_any (p h) (names_in h.glyphs) ≡ true
  some h n t = any_at nat_list_cmp_total name_same (p h) n (names_in h.glyphs) (sym (maps.contains_key-keys h.glyphs n) ∙ there h n t) t

  -- if a test passes a name in j where it does in f or in g, it passes some glyph of j if it does one of f or of g
  pub some_joined : (f g j : FontValue) → ((n : List ℕ) → p j n ≡ (p f n || p g n)) →
      list_any (p j) (names_in j.glyphs) ≡ (list_any (p f) (names_in f.glyphs) || list_any (p g) (names_in g.glyphs))
  some_joined f g j both =
      let one = λ (h : FontValue). any_one nat_list_cmp_total name_same (p h) (names_in h.glyphs) in
      both_ways (list_any (p j) (names_in j.glyphs)) _
      (λ t. let w = one j t in
      elim (or_cases (p f w.0) (p g w.0) (sym (both w.0) ∙ w.2)) [ inl x ↦ or_left _ _ (some f w.0 x) | inr y ↦ or_right _ _ (some g w.0 y) ])
      (λ t. elim (or_cases _ _ t) [
        | inl x ↦ let w = one f x in some j w.0 (both w.0 ∙ or_left _ _ w.2)
        | inr y ↦ let w = one g y in some j w.0 (both w.0 ∙ or_right _ _ w.2)
      ])

module _ {O : Type 0} (m : Interpreter O) where
  -- a charstring that executes an index is there
  pub executing_there : (f : FontValue) (i : ℕ) (x : Option (List ℕ)) → executed_at m f i x ≡ true → is_some x ≡ true
  executing_there f i x h = grind cases

  -- a charstring that names a component is there
  pub naming_there : (f : FontValue) (p : List ℕ) (x : Option (List ℕ)) → called_at m f p x ≡ true → is_some x ≡ true
  naming_there f p x h = grind cases

  -- an index that a glyph executes is called
  pub called : (f : FontValue) (i : ℕ) (n : List ℕ) → executes m f n i ≡ true → is_called m f i ≡ true
  called f i n h = some (λ h n. executes m h n i) (λ h n. executing_there h i (maps.get h.glyphs n)) f n h

  -- a component that a glyph calls for is sought
  pub sought : (f : FontValue) (p n : List ℕ) → calls_for m f n p ≡ true → is_sought m f p ≡ true
  sought f p n h = some (λ h n. calls_for m h n p) (λ h n. naming_there h p (maps.get h.glyphs n)) f n h
