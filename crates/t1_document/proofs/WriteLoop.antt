-- The loop that finds the names that are refused.
use Rattle.std.proofs.Common.{◌≡◌, ◌<◌, ◌+◌, ℕ, Bool, true, false, cond, List, [], ◌∷◌, length, get_or, take, map, Option, Some, None, refl, sym, ap, ◌∙◌, is_some}
use Rattle.std.proofs.{Common.{inl, inr}, Math.Bool.{or-false, and-true, and-false}, lemmas.Bool.{cases_Bool, cond-true, cond-false, true≢false}}
use Rattle.std.proofs.lemmas.{List.{map-append, take_more}, List.Folds.{list_any-append}, Option.{same_Some}, Slice.Eq.{bytes_eq-Decides}}
use Rattle.std.specs.{Prelude.{◌&&◌, ◌||◌}, List.{list_any}, Str.{bytes_eq}}
use Rattle.t1_document.specs.{declared.documents.Place.{Place as CodePlace}, declared.texts.Texts.{Texts}, Documents.{Place}}
use Rattle.t1_document.specs.{Rewriting.{NewTexts, can_stand_before, AllTried, is_refused}, Texts.{text_in, has_text}, Views.{place_view}}

-- ---- names of places that pass a test

pub same_test : (a b : List ℕ) → bytes_eq a b ≡ bytes_eq b a
same_test a b = elim (cases_Bool (bytes_eq a b)) [
  | inl e ↦ e ∙ sym ((bytes_eq-Decides b a).1 (sym ((bytes_eq-Decides a b).0 e)))
  | inr e ↦ elim (cases_Bool (bytes_eq b a)) [
    | inl h ↦ absurd (true≢false (sym ((bytes_eq-Decides a b).1 (sym ((bytes_eq-Decides b a).0 h))) ∙ e))
    | inr h ↦ e ∙ sym h
  ]
]

-- these names are those of places that pass a test
abbrev pub Flags : (Place → Bool) → List Place → Texts → Type 0
Flags test ps r = (name : List ℕ) → has_text r name ≡ list_any (λ p. bytes_eq name p.name && test p) ps

put_more : (b : Bool) (v : List ℕ) (o : Option (List ℕ)) → is_some (cond b (Some v) o) ≡ (is_some o || b)
put_more true v None = refl
put_more true v (Some x) = refl
put_more false v o = sym (or-false (is_some o))

module _ (test : Place → Bool) (places : List CodePlace) (i : ℕ) (d : CodePlace) (h : i < length places) where
  -- one of the places so far passes, and has this name
  abbrev flagged : List ℕ → Bool
  flagged name = list_any (λ p. bytes_eq name p.name && test p) (map place_view (take i places))

  -- with one place more
  flags_more : (name : List ℕ) → list_any (λ p. bytes_eq name p.name && test p) (map place_view (take (i + 1) places))
      ≡ (flagged name || (bytes_eq name (get_or places i d).name.now && test (place_view (get_or places i d))))
  flags_more name =
      let own : Place → Bool = λ p. bytes_eq name p.name && test p in
      let p = place_view (get_or places i d) in
      ap (λ (ps : List CodePlace). list_any own (map place_view ps)) (take_more places i d h)
      ∙ (ap (list_any own) (map-append place_view (take i places) (get_or places i d ∷ []))
      ∙ (list_any-append own (map place_view (take i places)) (p ∷ [])
      ∙ ap (λ (b : Bool). list_any own (map place_view (take i places)) || b) (or-false (own p))))

  -- a place that fails adds no name
  pub flags_stay : (r : Texts) (b : Bool) → Flags test (map place_view (take i places)) r → b ≡ test (place_view (get_or places i d)) → b ≡ false →
      Flags test (map place_view (take (i + 1) places)) r
  flags_stay r b k e fails name =
      let p = get_or places i d in
      k name
      ∙ sym (flags_more name
      ∙ (ap (λ (t : Bool). flagged name || (bytes_eq name p.name.now && t)) (sym e ∙ fails)
      ∙ (ap (λ (t : Bool). flagged name || t) (and-false (bytes_eq name p.name.now)) ∙ or-false _)))

  -- a place that passes adds its name
  pub flags_grow : (r s : Texts) (b : Bool) → Flags test (map place_view (take i places)) r → b ≡ test (place_view (get_or places i d)) → b ≡ true →
      ((other : List ℕ) → text_in s other ≡ cond (bytes_eq (get_or places i d).name.now other) (Some (get_or places i d).name.now) (text_in r other)) →
      Flags test (map place_view (take (i + 1) places)) s
  flags_grow r s b k e passes put name =
      let p = get_or places i d in
      ap is_some (put name)
      ∙ (put_more (bytes_eq p.name.now name) p.name.now (text_in r name)
      ∙ (ap (λ (t : Bool). t || bytes_eq p.name.now name) (k name)
      ∙ sym (flags_more name
      ∙ (ap (λ (t : Bool). flagged name || (bytes_eq name p.name.now && t)) (sym e ∙ passes)
      ∙ ap (λ (t : Bool). flagged name || t) (and-true (bytes_eq name p.name.now) ∙ same_test name p.name.now)))))

-- in texts that are the same
pub flags_same : (test : Place → Bool) (ps : List Place) (r s : Texts) → s ≡ r → Flags test ps r → Flags test ps s
flags_same test ps r s e k name = ap (λ (t : Texts). has_text t name) e ∙ k name

-- these names are refused at these places
abbrev pub Refuses : NewTexts → List Place → Texts → Type 0
Refuses new ps r = (name : List ℕ) → has_text r name ≡ is_refused new ps name

-- ---- rests that are noted

-- a rest more is noted, before which the new text of its name can stand
pub tried_more : (new tried more : NewTexts) (own text rest : List ℕ) → AllTried new tried →
    ((other : List ℕ) → more other ≡ cond (bytes_eq own other) (Some rest) (tried other)) → new own ≡ Some text →
    can_stand_before text own rest ≡ true → AllTried new more
tried_more new tried more own text rest all put is stands name r t e k = elim (cases_Bool (bytes_eq own name)) [
  | inl s ↦
      let same = (bytes_eq-Decides own name).0 s in
      let left : rest ≡ r = same_Some rest r (sym (put name ∙ cond-true (bytes_eq own name) (Some rest) (tried name) s) ∙ e) in
      let there : text ≡ t = same_Some text t (sym is ∙ (ap new same ∙ k)) in
      sym (λ i. can_stand_before (there i) (same i) (left i)) ∙ stands
  | inr s ↦ all name r t (sym (put name ∙ cond-false (bytes_eq own name) (Some rest) (tried name) s) ∙ e) k
]
