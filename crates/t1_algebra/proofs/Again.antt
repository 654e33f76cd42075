-- A subset of a subset is the font's own subset.
use Rattle.std.proofs.Common.{◌≡◌, ℕ, Bool, true, cond, List, [], refl, sym, ◌∙◌, unwrap_or}
use Rattle.t1_font.{specs.{FontValue.{FontValue, notdef}, Cut.{restrict, restrict_encoding, stub}}, proofs.MapLemmas.{get-map_values, get-retain}}
use Rattle.t1_algebra.specs.{Keep.{has, charstring, components, components_here, keep, kept, subset, IsOf}, States.{code_state}}
use Rattle.t1_algebra.proofs.{Words.{nat_cmp_total, nat_list_cmp_total, nat_cmp-IsAntisymmetric, Interpreter, Names}, Sets.{name_same, cases}}
use Rattle.t1_algebra.proofs.{Kept.{keep_has, keep_least, keep_closed, component_is, kept_more, calls, keeps_alike}, Subsets.{get-glyph, runs_alike, same_font, same_encoding, get-code}}
use Rattle.std.specs.FinSet as sets

-- ---- a cut of a cut

-- a font cut to q and then to p is the font cut to p, if p is narrower than q
restrict_twice : (p q : List ℕ → Bool) (r s : ℕ → Bool) (f : FontValue) → ((n : List ℕ) → p n ≡ true → q n ≡ true) → ((i : ℕ) → r i ≡ true → s i ≡ true)
    → restrict p r (restrict q s f) ≡ restrict p r f
restrict_twice p q r s f more most =
    let stubs = λ (t : ℕ → Bool) (g : FontValue) (i : ℕ). get-map_values nat_cmp_total nat_cmp-IsAntisymmetric (λ i c. cond (t i) c stub) g.subrs i in
    let glyphs = λ (t : List ℕ → Bool) (g : FontValue) (n : List ℕ). get-retain nat_list_cmp_total name_same g.glyphs t n in
    same_font _ _ refl (same_encoding _ _ (grind cases) (λ c. grind (
      cases,
      get-code p (restrict_encoding q f.encoding) c,
      get-code q f.encoding c,
      get-code p f.encoding c,
      more (unwrap_or (code_state f.encoding c) []),
    )))
    (λ i. grind (cases, stubs r (restrict q s f) i, stubs s f i, stubs r f i, most i))
    (λ n. grind (cases, glyphs p (restrict q s f) n, glyphs q f n, glyphs p f n, more n))

-- ---- what a subset keeps

module _ {O : Type 0} (m : Interpreter O) (f : FontValue) (base : has f notdef ≡ true) (a : Names) (inside : IsOf f a) where
  abbrev sub : FontValue
  sub = subset m f a

  -- the subset's glyphs are those that are kept
  sub_has : (n : List ℕ) → has sub n ≡ sets.contains (keep m f a) n
  sub_has n = grind (cases, get-glyph m f a n, keep_has m f a n)

  -- a kept glyph names the same components in the subset, and executes the same Subrs
  runs_same : (n : List ℕ) → sets.contains (keep m f a) n ≡ true →
      (components m sub.subrs (charstring sub n) ≡ components m f.subrs (charstring f n)) × (calls m sub n ≡ calls m f n)
  runs_same n k = grind (cases, get-glyph m f a n, runs_alike m f a n, keep_has m f a n k, k)

  -- a kept glyph has the same components in the subset
  parts_same : (n : List ℕ) → sets.contains (keep m f a) n ≡ true → components_here m sub n ≡ components_here m f n
  parts_same n k = sets.same_set nat_list_cmp_total name_same _ _ (λ p.
      grind (
        cases,
        component_is m sub n p,
        component_is m f n p,
        (runs_same n k).0,
        sub_has p,
        keep_has m f a p,
        (keep_closed m f a base inside).components n p k,
      ))

  module _ (b : Names) (within : IsOf sub b) where
    -- names of the subset are names of the font
    in_keep : (n : List ℕ) → sets.contains b n ≡ true → sets.contains (keep m f a) n ≡ true
    in_keep n h = sym (sub_has n) ∙ within n h

    -- what is kept of names of the subset was kept already
    keep_less : (n : List ℕ) → sets.contains (keep m f b) n ≡ true → sets.contains (keep m f a) n ≡ true
    keep_less =
        let closed = keep_closed m f a base inside in
        keep_least m f b (keep m f a) (keep_has m f a) (record { asked = in_keep; notdef = closed.notdef; components = closed.components })

    -- the same names and Subrs are kept of the subset as of the font
    again : (keep m sub b ≡ keep m f b) × (kept m sub b ≡ kept m f b)
    again = keeps_alike m f sub b base (λ n h. keep_has m f a n (in_keep n h)) (sub_has notdef ∙ (keep_closed m f a base inside).notdef) within
        (λ n h. let k = keep_less n h in (sub_has n ∙ k, parts_same n k, (runs_same n k).1))

    -- a subset of a subset is the font's own subset
    pub subset_again : subset m sub b ≡ subset m f b
    subset_again =
        (λ i. restrict (sets.contains (again.0 i)) (sets.contains (again.1 i)) sub)
        ∙ restrict_twice (sets.contains (keep m f b)) (sets.contains (keep m f a))
        (sets.contains (kept m f b)) (sets.contains (kept m f a)) f keep_less (kept_more m f b a keep_less)

  -- the subset of a subset over the same names is the subset itself
  pub subset_itself : subset m sub a ≡ subset m f a
  subset_itself = subset_again a (λ n h. sub_has n ∙ (keep_closed m f a base inside).asked n h)
