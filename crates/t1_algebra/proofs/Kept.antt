-- What is kept is closed and least, and two sets of names keep together what each of them keeps.
use Rattle.std.proofs.Common.{◌≡◌, ◌↔◌, ℕ, true, not, ◌||◌, ◌&&◌, List, [], ◌∷◌, ◌++◌, flat_map, refl, sym, ◌∙◌, ap, ◌⊎◌, inl, inr, nat_cmp, Some, unwrap_or}
use Rattle.std.proofs.{lemmas.Bool.{and_from, or_left, or_right, or_cases}, lemmas.List.Folds.{list_any-append}}
use Rattle.t1_font.specs.FontValue.{FontValue, name_cmp, notdef}
use Rattle.t1_algebra.specs.{Interpreter.{Numbers}, Keep.{Closed, is_closed, is_needed, keep, kept, components, components_here, has, charstring, IsOf}, Laws.{Inside}}
use Rattle.t1_algebra.proofs.Words.{list_any, eq_by_cmp, nat_cmp_total, first_so, second_so, nat_list_cmp_total, nat_cmp-IsAntisymmetric, Interpreter, Names, same_bytes}
use Rattle.t1_algebra.proofs.Sets.{any_at, any_one, all_at, all_from, any_flat_map, same_members, contains-filter, in_items, from_in_items, name_same, each_set, cases}
use Rattle.std.specs.FinSet as sets
use Rattle.std.specs.FinMap as maps

module _ {O : Type 0} (m : Interpreter O) (f : FontValue) where
  -- a set passes the test exactly if it is closed
  test_closed : (a s : Names) → (is_closed m f a s ≡ true) ↔ Closed m f a s
  test_closed a s =
      let holds = λ (n : List ℕ). sets.is_subset (components_here m f n) s in (
        λ h. record {
          asked = sets.is_subset-contains nat_list_cmp_total a s (first_so _ _ (second_so _ _ h));
          notdef = first_so _ _ h;
          components = λ n p is. sets.is_subset-contains nat_list_cmp_total (components_here m f n) s
              (all_at nat_list_cmp_total name_same holds n (sets.items s) (second_so _ _ (second_so _ _ h)) (in_items nat_list_cmp_total name_same s n is)) p;
        },
        λ c. and_from _ _ c.notdef (and_from _ _ (sets.contains-is_subset nat_list_cmp_total a s c.asked)
            (all_from nat_list_cmp_total name_same holds (sets.items s)
            (λ n is. sets.contains-is_subset nat_list_cmp_total (components_here m f n) s
            (λ p. c.components n p (from_in_items nat_list_cmp_total name_same s n is))))),
      )

  -- ---- members

  -- a component is here if the font has it and the glyph names it
  pub component_is : (n p : List ℕ) →
      sets.contains (components_here m f n) p ≡ (has f p && list_any (eq_by_cmp name_cmp p) (components m f.subrs (charstring f n)))
  component_is n p = contains-filter nat_list_cmp_total name_same (has f) (components m f.subrs (charstring f n)) p

  -- a name is kept if it is needed and the font has it
  keep_is : (a : Names) (n : List ℕ) → sets.contains (keep m f a) n ≡ (is_needed m f a n && has f n)
  keep_is a n = contains-filter nat_list_cmp_total name_same (is_needed m f a) (maps.keys f.glyphs) n
      ∙ ap (λ b. is_needed m f a n && b) (sym (maps.contains_key-keys f.glyphs n))

  -- a name that is kept is the font's
  pub keep_has : (a : Names) (n : List ℕ) → sets.contains (keep m f a) n ≡ true → has f n ≡ true
  keep_has a n h = second_so _ _ (sym (keep_is a n) ∙ h)

  -- what is kept is in each closed set of the font's names
  pub keep_least : (a s : Names) → IsOf f s → Closed m f a s → (n : List ℕ) → sets.contains (keep m f a) n ≡ true → sets.contains s n ≡ true
  keep_least a s inside c n h =
      let in_each = (each_set (maps.keys f.glyphs) (λ s. not (is_closed m f a s) || sets.contains s n)).0
      (first_so _ _ (sym (keep_is a n) ∙ h)) s (λ q is. sym (maps.contains_key-keys f.glyphs q) ∙ inside q is) in
      grind (cases, in_each, (test_closed a s).1 c)

  -- a name of the font that is in each closed set is kept
  pub keep_from : (a : Names) (n : List ℕ) → has f n ≡ true → ((s : Names) → IsOf f s → Closed m f a s → sets.contains s n ≡ true) →
      sets.contains (keep m f a) n ≡ true
  keep_from a n is each = keep_is a n ∙ and_from _ _ ((each_set (maps.keys f.glyphs) (λ s. not (is_closed m f a s) || sets.contains s n)).1 (λ s w.
      let member = λ (c : is_closed m f a s ≡ true). each s (λ q h. maps.contains_key-keys f.glyphs q ∙ w q h) ((test_closed a s).0 c) in
      grind (cases, member))) is

  -- what is kept is closed
  pub keep_closed : (a : Names) → has f notdef ≡ true → IsOf f a → Closed m f a (keep m f a)
  keep_closed a base inside = record {
    asked = λ n h. keep_from a n (inside n h) (λ s i c. c.asked n h);
    notdef = keep_from a notdef base (λ s i c. c.notdef);
    components =
        λ n p h component. keep_from a p (first_so _ _ (sym (component_is n p) ∙ component)) (λ s i c. c.components n p (keep_least a s i c n h) component);
  }

  -- a component that a kept glyph names is kept if the font has it
  pub keep_part : (a : Names) → has f notdef ≡ true → IsOf f a → (n c p : List ℕ)
      → sets.contains (keep m f a) n ≡ true → maps.get f.glyphs n ≡ Some c → list_any (same_bytes p) (components m f.subrs c) ≡ true → has f p ≡ true →
      sets.contains (keep m f a) p ≡ true
  keep_part a base inside n c p k is w here = (keep_closed a base inside).components n p k
      (component_is n p ∙ and_from _ _ here (ap (λ x. list_any (same_bytes p) (components m f.subrs (unwrap_or x []))) is ∙ w))

  -- ---- distribution

  -- a larger set of names keeps no fewer glyphs
  pub keep_more : (a b : Names) → Inside a b → (n : List ℕ) → sets.contains (keep m f a) n ≡ true → sets.contains (keep m f b) n ≡ true
  keep_more a b sub n h = keep_from b n (keep_has a n h)
      (λ s i c. keep_least a s i (record { asked = λ q is. c.asked q (sub q is); notdef = c.notdef; components = c.components }) n h)

  -- two sets of names keep together the glyphs that each of them keeps
  pub keep_union : (a b : Names) → has f notdef ≡ true → IsOf f a → IsOf f b → keep m f (sets.union a b) ≡ sets.union (keep m f a) (keep m f b)
  keep_union a b base ia ib =
      let ca = keep_closed a base ia in
      let cb = keep_closed b base ib in
      let asked = sets.contains-union nat_list_cmp_total a b in
      let both = sets.contains-union nat_list_cmp_total (keep m f a) (keep m f b) in
      same_members nat_list_cmp_total name_same _ _
      (keep_least (sets.union a b) (sets.union (keep m f a) (keep m f b)) (λ q w. grind (cases, w, both q, keep_has a q, keep_has b q)) (record {
        asked = λ q w. grind (cases, w, asked q, both q, ca.asked q, cb.asked q);
        notdef = grind (cases, both notdef, ca.notdef);
        components = λ q p w component. grind (cases, w, component, both q, both p, ca.components q p, cb.components q p);
      }))
      (λ n h. grind (
        cases,
        h,
        both n,
        keep_more a (sets.union a b) (λ q w. grind (cases, w, asked q)) n,
        keep_more b (sets.union a b) (λ q w. grind (cases, w, asked q)) n,
      ))

  -- ---- kept

  -- the Subrs that a glyph executes
  abbrev pub calls : List ℕ → Numbers
  calls n = m.exec f.subrs (charstring f n)

  -- the indices that are always kept
  abbrev low : List ℕ
  low = 0 ∷ 1 ∷ 2 ∷ 3 ∷ []

  -- a Subr is kept if it is one of the first four, or some kept glyph executes it
  kept_is : (a : Names) (i : ℕ) → sets.contains (kept m f a) i
      ≡ (list_any (eq_by_cmp nat_cmp i) low || list_any (λ n. list_any (eq_by_cmp nat_cmp i) (sets.items (calls n))) (sets.items (keep m f a)))
  kept_is a i =
      let names = sets.items (keep m f a) in
      let called = flat_map (λ n. sets.items (calls n)) names in
      sets.contains-from_list nat_cmp_total (low ++ called) i ∙ list_any-append (eq_by_cmp nat_cmp i) low called
      ∙ ap (λ b. list_any (eq_by_cmp nat_cmp i) low || b) (any_flat_map (eq_by_cmp nat_cmp i) (λ n. sets.items (calls n)) names)

  -- a Subr that is kept is one of the first four, or a kept glyph executes it
  kept_cases : (a : Names) (i : ℕ) → sets.contains (kept m f a) i ≡ true →
      (list_any (eq_by_cmp nat_cmp i) low ≡ true) ⊎ ((n : List ℕ) × (sets.contains (keep m f a) n ≡ true) × (sets.contains (calls n) i ≡ true))
  kept_cases a i h = elim (or_cases _ _ (sym (kept_is a i) ∙ h)) [
    | inl x ↦ inl x
    | inr y ↦
        let r = any_one nat_list_cmp_total name_same _ (sets.items (keep m f a)) y in
        inr (r.0, from_in_items nat_list_cmp_total name_same (keep m f a) r.0 r.1, from_in_items nat_cmp_total nat_cmp-IsAntisymmetric (calls r.0) i r.2)
  ]

  -- what a kept glyph executes is kept
  pub kept_call : (a : Names) (i : ℕ) (n : List ℕ) → sets.contains (keep m f a) n ≡ true → sets.contains (calls n) i ≡ true →
      sets.contains (kept m f a) i ≡ true
  kept_call a i n is h =
      kept_is a i ∙ or_right _ _ (any_at nat_list_cmp_total name_same (λ n. list_any (eq_by_cmp nat_cmp i) (sets.items (calls n))) n (sets.items (keep m f a))
      (in_items nat_list_cmp_total name_same (keep m f a) n is) (in_items nat_cmp_total nat_cmp-IsAntisymmetric (calls n) i h))

-- if g keeps over b the glyphs that f keeps over a, and they execute the same in both, g keeps no fewer Subrs
kept_in : {O : Type 0} (m : Interpreter O) (f g : FontValue) (a b : Names) →
    ((n : List ℕ) → sets.contains (keep m f a) n ≡ true → (sets.contains (keep m g b) n ≡ true) × (calls m g n ≡ calls m f n))
    → (i : ℕ) → sets.contains (kept m f a) i ≡ true → sets.contains (kept m g b) i ≡ true
kept_in m f g a b more i h = elim (kept_cases m f a i h) [
  | inl x ↦ kept_is m g b i ∙ or_left _ _ x
  | inr y ↦ let there = more y.0 y.1 in kept_call m g b i y.0 there.0 (ap (λ s. sets.contains s i) there.1 ∙ y.2)
]

module _ {O : Type 0} (m : Interpreter O) (f : FontValue) where
  -- a set that keeps more glyphs keeps no fewer Subrs
  pub kept_more : (a b : Names) → Inside (keep m f a) (keep m f b) → (i : ℕ) → sets.contains (kept m f a) i ≡ true → sets.contains (kept m f b) i ≡ true
  kept_more a b more = kept_in m f f a b (λ n k. (more n k, refl))

  -- two sets of names keep together the Subrs that each of them keeps
  pub kept_union : (a b : Names) → has f notdef ≡ true → IsOf f a → IsOf f b → kept m f (sets.union a b) ≡ sets.union (kept m f a) (kept m f b)
  kept_union a b base ia ib =
      let both = sets.contains-union nat_cmp_total (kept m f a) (kept m f b) in
      let more = λ (c : Names) (sub : Inside c (sets.union a b)). kept_more c (sets.union a b) (keep_more m f c (sets.union a b) sub) in
      same_members nat_cmp_total nat_cmp-IsAntisymmetric _ _
      (λ i h. elim (kept_cases m f (sets.union a b) i h) [
        | inl x ↦ both i ∙ or_left _ _ (kept_is m f a i ∙ or_left _ _ x)
        | inr y ↦ elim (or_cases _ _ (sym (ap (λ s. sets.contains s y.0) (keep_union m f a b base ia ib)
            ∙ sets.contains-union nat_list_cmp_total (keep m f a) (keep m f b) y.0) ∙ y.1)) [
              | inl w ↦ both i ∙ or_left _ _ (kept_call m f a i y.0 w y.2)
              | inr w ↦ both i ∙ or_right _ _ (kept_call m f b i y.0 w y.2)
            ]
      ])
      (λ i h. grind (
        cases,
        h,
        both i,
        more a (λ q w. grind (cases, w, sets.contains-union nat_list_cmp_total a b q)) i,
        more b (λ q w. grind (cases, w, sets.contains-union nat_list_cmp_total a b q)) i,
      ))

-- if g has the glyphs that f keeps, and they have the same components there, g keeps no more names
keep_in : {O : Type 0} (m : Interpreter O) (f g : FontValue) (a : Names) → has f notdef ≡ true → IsOf f a → IsOf g (keep m f a)
    → ((n : List ℕ) → sets.contains (keep m f a) n ≡ true → components_here m g n ≡ components_here m f n) → Inside (keep m g a) (keep m f a)
keep_in m f g a base inside there parts =
    let c = keep_closed m f a base inside in
    keep_least m g a (keep m f a) there (record {
      asked = c.asked;
      notdef = c.notdef;
      components = λ n p k w. c.components n p k (ap (λ (s : Names). sets.contains s p) (sym (parts n k)) ∙ w);
    })

-- if the glyphs that f keeps are in g, and have the same components and execute the same Subrs there, g keeps the same names and Subrs
pub keeps_alike : {O : Type 0} (m : Interpreter O) (f g : FontValue) (a : Names) → has f notdef ≡ true → IsOf f a → has g notdef ≡ true → IsOf g a
    → ((n : List ℕ) → sets.contains (keep m f a) n ≡ true → (has g n ≡ true) × (components_here m g n ≡ components_here m f n) × (calls m g n ≡ calls m f n)) →
    (keep m g a ≡ keep m f a) × (kept m g a ≡ kept m f a)
keeps_alike m f g a base inside also within same =
    let more = keep_in m f g a base inside (λ n k. (same n k).0) (λ n k. (same n k).1) in
    let less = keep_in m g f a also within (λ n k. keep_has m f a n (more n k)) (λ n k. sym (same n (more n k)).1) in (
      same_members nat_list_cmp_total name_same _ _ more less,
      same_members nat_cmp_total nat_cmp-IsAntisymmetric _ _
          (kept_in m g f a a (λ n k. (more n k, sym (same n (more n k)).2))) (kept_in m f g a a (λ n k. (less n k, (same n k).2))),
    )
