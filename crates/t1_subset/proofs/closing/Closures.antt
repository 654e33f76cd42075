-- The names of a closure: a list to which names are added at the end, until it is closed; and the cut of a font to it.
use Rattle.std.proofs.{lemmas.Bool.{or_cases, or_left, or_right, not-false}, lemmas.Map.Keys.{IsDistinct-push}, lemmas.List.{take-append-le, map-append, append-nil, length-map}}
use Rattle.std.proofs.{lemmas.Map.Made.{length-le_from_is_member}, lemmas.List.Folds.{list_any_more, list_any_at, list_any-append}, lemmas.Option.{slice_get_cases}}
use Rattle.std.proofs.Common.{◌≡◌, ℕ, ◌+◌, ◌<◌, ◌≤◌, Bool, true, false, List, [], ◌∷◌, ◌++◌, refl, sym, ◌∙◌, ap, inl, inr, length, take, cond, arith, length-append, true≢false, get_or, ◌||◌, Some}
use Rattle.std.proofs.Common.{None, slice_get, not, subst, take_all, filter, nat_cmp, append_assoc}
use Rattle.std.specs.{List.{list_any, IsDistinct, find}, Cmp.{eq_by_cmp_equiv, nat_cmp_total}, Cmp.Lexicographic.{nat_list_cmp_total, pointwise, texts_ties}, Prelude.{nat_eq}, Borrow.{Bor}}
use Rattle.std.specs.{BTreeSet.{BTreeSet, contains}, Global.{Vec}}
use Rattle.t1_font.specs.{FontValue.{FontValue, notdef}, IsFont.{IsFont}, Cut.{set_of_names, restrict}}
use Rattle.t1_algebra.specs.{Interpreter.{same_bytes, Interpreter, Names, Numbers}, Keep.{has, Closed, keep, components, components_here, charstring, kept, subset, IsOf}, Alike.{DrawsAlike}}
use Rattle.t1_algebra.specs.Profile.{profile}
use Rattle.t1_algebra.proofs.{Sets.{cases, name_same, tied, itself, in_list, any_filter, from_in_list, same_members}, Searching.{none_at_all}, Kept.{keep_least, keep_from, keep_has, keep_closed}}
use Rattle.t1_algebra.proofs.Drawings.{subset_alike}
use Rattle.t1_subset.specs.{ClosureNames.{push_new, push_all}, NameSets.{lent}, Calls.{number_set}}
use Rattle.indexmap.specs.IndexSet.{insert_key}
use Rattle.std.specs.FinSet as sets
use Rattle.std.specs.FinMap as maps

-- ---- names that are added to a list

-- more names stand after those that were there
all_after : (ps ns : List (List ℕ)) → (more : List (List ℕ)) × (push_all ns ps ≡ ns ++ more)
all_after [] ns = ([], sym (append-nil ns))
all_after (p ∷ ps) ns = elim (list_any (same_bytes p) ns) as (λ b. (more : List (List ℕ)) × (push_all (cond b ns (ns ++ p ∷ [])) ps ≡ ns ++ more)) [
  | true ↦ all_after ps ns
  | false ↦ let more = all_after ps (ns ++ p ∷ []) in (p ∷ more.0, more.1 ∙ append_assoc ns (p ∷ []) more.0)
]

-- a list with one more name has that name and those that it had
new_in : (q n : List ℕ) (ns : List (List ℕ)) → list_any (same_bytes q) (push_new ns n) ≡ (list_any (same_bytes q) ns || same_bytes q n)
new_in q n ns = grind (cases, tied nat_list_cmp_total name_same q n, list_any-append (same_bytes q) ns (n ∷ []))

-- a list with more names has these names and those that it had
pub all_in : (q : List ℕ) (ps ns : List (List ℕ)) → list_any (same_bytes q) (push_all ns ps) ≡ (list_any (same_bytes q) ns || list_any (same_bytes q) ps)
all_in q [] ns = grind cases
all_in q (p ∷ ps) ns = grind (cases, all_in q ps (push_new ns p), new_in q p ns)

-- a list without repeats has none after more names are added
all_distinct : (ps ns : List (List ℕ)) → IsDistinct same_bytes ns → IsDistinct same_bytes (push_all ns ps)
all_distinct [] ns d = d
all_distinct (p ∷ ps) ns d = all_distinct ps (push_new ns p) (elim (list_any (same_bytes p) ns)
    as (λ b. list_any (same_bytes p) ns ≡ b → IsDistinct same_bytes (cond b ns (ns ++ p ∷ []))) [
      | true ↦ λ h. d
      | false ↦ λ h. IsDistinct-push (eq_by_cmp_equiv nat_list_cmp_total) ns p d h
    ] refl)

no_names : IsDistinct same_bytes []
unfolding IsDistinct
no_names = tt

-- a list with more names is no shorter
all_length : (ps ns : List (List ℕ)) → length ns ≤ length (push_all ns ps)
all_length ps ns = let a = all_after ps ns in omega (arith, ap length a.1, length-append ns a.0)

-- a list with more names begins as it did
pub all_front : (i : ℕ) (ps ns : List (List ℕ)) → i ≤ length ns → take i (push_all ns ps) ≡ take i ns
all_front i ps ns h = let a = all_after ps ns in ap (take i) a.1 ∙ take-append-le i ns a.0 h

-- ---- borrowed names

-- two borrowed names have the same bytes
abbrev pub same_lent : Bor (List ℕ) → Bor (List ℕ) → Bool
same_lent a b = pointwise nat_eq a.now b.now

any_lent : (n : List ℕ) (ks : List (Bor (List ℕ))) → list_any (λ k. pointwise nat_eq n k.now) ks ≡ list_any (same_bytes n) (lent ks)
any_lent n [] = refl
any_lent n (k ∷ ks) = λ i. texts_ties n k.now i || any_lent n ks i

chosen : (b : Bool) (ks : List (Bor (List ℕ))) (k : Bor (List ℕ)) → lent (cond b ks (ks ++ k ∷ [])) ≡ cond b (lent ks) (lent ks ++ k.now ∷ [])
chosen true ks k = refl
chosen false ks k = map-append (λ (n : Bor (List ℕ)). n.now) ks (k ∷ [])

-- inserting a key adds the name at the end, unless it is there already
pub lent_insert : (ks : List (Bor (List ℕ))) (k : Bor (List ℕ)) → lent (insert_key same_lent ks k) ≡ push_new (lent ks) k.now
lent_insert ks k = chosen (list_any (same_lent k) ks) ks k ∙ ap (λ b. cond b (lent ks) (lent ks ++ k.now ∷ [])) (any_lent k.now ks)

-- a name that is answered for a place is the one at that place
pub got : (ns : List (List ℕ)) (i : ℕ) (n : List ℕ) → Some n ≡ slice_get ns i → (i < length ns) × (get_or ns i n ≡ n)
got ns i n e = grind (arith, slice_get_cases ns i)

-- if no name is answered for a place, it is past the end
pub past : (ns : List (List ℕ)) (i : ℕ) → None ≡ slice_get ns i → length ns ≤ i
past ns i e = grind (arith, slice_get_cases ns i)

-- ---- what is kept

-- if a search for an absent name finds none, the names are the font's
pub none_absent : (f : FontValue) (ns : List (List ℕ)) → find (λ n. not (has f n)) ns ≡ None → IsOf f (sets.from_list ns)
none_absent f ns h n k =
    not-false (has f n) (none_at_all nat_list_cmp_total name_same (λ n. not (has f n)) ns n h (in_list nat_list_cmp_total name_same ns n k))

-- the names of a closure so far: the components of the first i of them are among them
pub record ClosureSoFar {O : Type 0} (m : Interpreter O) (f : FontValue) (a : Names) (ns : List (List ℕ)) (i : ℕ) : Type 0 where
  pub distinct : IsDistinct same_bytes ns
  pub inside : (q : List ℕ) → list_any (same_bytes q) ns ≡ true → has f q ≡ true
  pub base : list_any (same_bytes notdef) ns ≡ true
  pub asked : (q : List ℕ) → sets.contains a q ≡ true → list_any (same_bytes q) ns ≡ true
  pub least : (s : Names) → IsOf f s → Closed m f a s → (q : List ℕ) → list_any (same_bytes q) ns ≡ true → sets.contains s q ≡ true
  pub closed : (n : List ℕ) → list_any (same_bytes n) (take i ns) ≡ true → (p : List ℕ) → sets.contains (components_here m f n) p ≡ true →
      list_any (same_bytes p) ns ≡ true
  pub reached : i ≤ length ns

-- the closure begins with `.notdef` and the names that are asked for
pub closure_start : {O : Type 0} (m : Interpreter O) (f : FontValue) (names : List (List ℕ)) → has f notdef ≡ true → IsOf f (sets.from_list names) →
    ClosureSoFar m f (sets.from_list names) (push_all (push_new [] notdef) names) 0
closure_start m f names base inside =
    let from = λ (q : List ℕ) (w : list_any (same_bytes q) (push_all [] (notdef ∷ names)) ≡ true).
    or_cases (same_bytes q notdef) (list_any (same_bytes q) names) (sym (all_in q (notdef ∷ names) []) ∙ w) in
    record {
      distinct = all_distinct (notdef ∷ names) [] no_names;
      inside = λ q w. elim (from q w) [
        | inl x ↦ ap (has f) (tied nat_list_cmp_total name_same q notdef x) ∙ base
        | inr y ↦ inside q (from_in_list nat_list_cmp_total name_same names q y)
      ];
      base = all_in notdef (notdef ∷ names) []
          ∙ or_left (same_bytes notdef notdef) (list_any (same_bytes notdef) names) (itself nat_list_cmp_total name_same notdef);
      asked =
          λ q w. all_in q (notdef ∷ names) [] ∙ or_right (same_bytes q notdef) (list_any (same_bytes q) names) (in_list nat_list_cmp_total name_same names q w);
      least = λ s o c q w. elim (from q w) [
        | inl x ↦ ap (sets.contains s) (tied nat_list_cmp_total name_same q notdef x) ∙ c.notdef
        | inr y ↦ c.asked q (from_in_list nat_list_cmp_total name_same names q y)
      ];
      closed = λ n w. absurd (true≢false (sym w));
      reached = omega arith;
    }

module _ {O : Type 0} (m : Interpreter O) (f : FontValue) (a : Names) where
  -- the components of a name's glyph that the font has
  abbrev found : List ℕ → List (List ℕ)
  found n = filter (has f) (components m f.subrs (charstring f n))

  -- a step adds the components of the next name
  pub closure_step : (ns : List (List ℕ)) (i : ℕ) (n : List ℕ) → ClosureSoFar m f a ns i → i < length ns → get_or ns i n ≡ n →
      ClosureSoFar m f a (push_all ns (found n)) (i + 1)
  closure_step ns i n k h e =
      let ps = found n in
      let is : list_any (same_bytes n) ns ≡ true = list_any_at (same_bytes n) ns i n h (ap (same_bytes n) e ∙ itself nat_list_cmp_total name_same n) in
      let from = λ (q : List ℕ) (w : list_any (same_bytes q) (push_all ns ps) ≡ true).
      or_cases (list_any (same_bytes q) ns) (list_any (same_bytes q) ps) (sym (all_in q ps ns) ∙ w) in
      let more = λ (q : List ℕ) (w : list_any (same_bytes q) ns ≡ true). all_in q ps ns ∙ or_left _ (list_any (same_bytes q) ps) w in
      record {
        distinct = all_distinct ps ns k.distinct;
        inside = λ q w. elim (from q w) [
          | inl x ↦ k.inside q x
          | inr y ↦ (any_filter nat_list_cmp_total name_same (has f) q (components m f.subrs (charstring f n)) y).1
        ];
        base = more notdef k.base;
        asked = λ q w. more q (k.asked q w);
        least = λ s o c q w. elim (from q w) [
          | inl x ↦ k.least s o c q x
          | inr y ↦ c.components n q (k.least s o c n is) (from_in_list nat_list_cmp_total name_same ps q y)
        ];
        closed = λ q w p component.
            elim (or_cases (list_any (same_bytes q) (take i ns)) (same_bytes q (get_or ns i n))
            (sym (list_any_more (same_bytes q) ns i n h) ∙ ap (list_any (same_bytes q)) (sym (all_front (i + 1) ps ns (omega arith))) ∙ w)) [
              | inl x ↦ more p (k.closed q x p component)
              | inr y ↦
                  let here = tied nat_list_cmp_total name_same q n (ap (same_bytes q) (sym e) ∙ y) in
                  all_in p ps ns
                  ∙ or_right _ _ (in_list nat_list_cmp_total name_same ps p (ap (λ t. sets.contains (components_here m f t) p) (sym here) ∙ component))
            ];
        reached = omega (arith, all_length ps ns);
      }

  -- at the end of the list the names of the closure are what is kept
  pub closure_end : (ns : List (List ℕ)) (i : ℕ) → ClosureSoFar m f a ns i → length ns ≤ i → sets.from_list ns ≡ keep m f a
  closure_end ns i k h =
      let s = sets.from_list ns in
      let inside : IsOf f s = λ q w. k.inside q (in_list nat_list_cmp_total name_same ns q w) in
      let closed : Closed m f a s = record {
        asked = λ q w. from_in_list nat_list_cmp_total name_same ns q (k.asked q w);
        notdef = from_in_list nat_list_cmp_total name_same ns notdef k.base;
        components = λ n p w component. from_in_list nat_list_cmp_total name_same ns p
            (k.closed n (ap (λ t. list_any (same_bytes n) t) (take_all i ns h) ∙ in_list nat_list_cmp_total name_same ns n w) p component);
      } in
      same_members nat_list_cmp_total name_same s (keep m f a)
      (λ q w. keep_from m f a q (inside q w) (λ t o c. k.least t o c q (in_list nat_list_cmp_total name_same ns q w)))
      (λ q w. keep_least m f a s inside closed q w)

  -- a closure has no more names than the font has glyphs
  closure_few : (ns : List (List ℕ)) (i : ℕ) → ClosureSoFar m f a ns i → length ns ≤ maps.len f.glyphs
  closure_few ns i k =
      let few = length-le_from_is_member (eq_by_cmp_equiv nat_list_cmp_total) ns
      (maps.keys f.glyphs) k.distinct (λ q h. sym (maps.contains_key-keys f.glyphs q) ∙ k.inside q h) in
      omega (arith, few, maps.len-entries f.glyphs, length-map (maps.entries f.glyphs) (λ e. e.0))

  -- a name's place in a closure is below the number of glyphs
  pub place_below : (ns : List (List ℕ)) (i : ℕ) (n : List ℕ) → ClosureSoFar m f a ns i → Some n ≡ slice_get ns i → i < maps.len f.glyphs
  place_below ns i n k e = omega (arith, closure_few ns i k, (got ns i n e).0)

-- ---- cutting a font

module _ (f : FontValue) (w : IsFont f) (ns : List (List ℕ)) (present : find (λ n. not (has f n)) ns ≡ None) where
  -- the names that are asked for
  abbrev of : Names
  of = sets.from_list ns

  -- a kept glyph draws alike in the subset
  pub draws : (s : FontValue) → s ≡ subset profile f of → (n : List ℕ) → sets.contains (keep profile f of) n ≡ true → DrawsAlike f s n
  draws s e n k = subst (λ (s : FontValue). DrawsAlike f s n) (sym e) (subset_alike f w of (none_absent f ns present) n k)

  module _ (vs us : List (Vec ℕ)) (is : us ≡ vs) (e : set_of_names vs ≡ keep profile f of) where
    -- the names of a closure include `.notdef`
    pub has_notdef : sets.contains (set_of_names us) notdef ≡ true
    has_notdef =
        ap (λ (s : Names). sets.contains s notdef) (ap set_of_names is ∙ e) ∙ (keep_closed profile f of w.glyphs.notdef (none_absent f ns present)).notdef

    -- the names of a closure are names of the font
    pub of_font : IsOf f (set_of_names us)
    of_font n h = keep_has profile f of n (ap (λ (s : Names). sets.contains s n) (sym (ap set_of_names is ∙ e)) ∙ h)

    -- a font cut to its closure is the subset
    pub cut_is : (s : BTreeSet ℕ) → number_set s ≡ kept profile f of → restrict (sets.contains (set_of_names us)) (contains nat_cmp s) f ≡ subset profile f of
    cut_is s h = (λ i. restrict (sets.contains ((ap set_of_names is ∙ e) i)) (λ k. sym (sets.contains-from_list nat_cmp_total s.keys k) i) f)
        ∙ ap (λ (t : Numbers). restrict (sets.contains (keep profile f of)) (sets.contains t) f) h
