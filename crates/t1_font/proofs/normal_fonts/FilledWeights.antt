-- What fonts weigh that are filled: each stub adds the same.
use Rattle.std.proofs.Common.{◌≡◌, ℕ, ◌+◌, ◌-◌, ◌*◌, Bool, true, false, not, List, [], ◌∷◌, map, filter, length, refl, sym, ◌∙◌, ap, arith, Option, Some, None, cond, is_some}
use Rattle.std.specs.{List.{AllByRecursion}, Ordering.{nat_cmp, eq_by_cmp}, Cmp.{nat_cmp_total}}
use Rattle.std.specs.FinMap.{find, get, get-from_entries, entries, contains_key, retain_keys, same_map, len, len-entries, nat_cmp-IsAntisymmetric}
use Rattle.t1_font.specs.{FontValue.{FontValue, SparseArray, total, texts_weight, subr_weight, glyph_weight, weight}, Cut.{stub}, Normalizing.{stubs_at}, Maps.{merged}, Filling.{AreStubs, with_subrs}}
use Rattle.t1_font.proofs.{MapLemmas.{get-merged, get-retain, entries_all, joined, Some_same, Some_None}, CutEntries.{entries-retain}}

module _ {K X : Type 0} (w : K → X → ℕ) where
  -- entries that pass a test and those that fail it sum to what all do
  pub total_split : (p : K × X → Bool) (es : List (K × X)) → total w es ≡ total w (filter p es) + total w (filter (λ e. not (p e)) es)
  total_split p [] = refl
  total_split p (e ∷ es) = by (p e) (total_split p es)
    where
      by : (b : Bool) → total w es ≡ total w (filter p es) + total w (filter (λ e. not (p e)) es) → w e.0 e.1 + total w es
          ≡ total w (cond b (e ∷ filter p es) (filter p es)) + total w (cond (not b) (e ∷ filter (λ e. not (p e)) es) (filter (λ e. not (p e)) es))
      by true h = omega (arith, h)
      by false h = omega (arith, h)

  -- entries that fail a test and weigh the same sum to as many times that
  total_same : (n : ℕ) (p : K × X → Bool) (es : List (K × X)) → AllByRecursion (λ e. not (p e) ≡ true → w e.0 e.1 ≡ n) es →
      total w (filter (λ e. not (p e)) es) ≡ length (filter (λ e. not (p e)) es) * n
  total_same n p [] h = omega arith
  total_same n p (e ∷ es) h = by (not (p e)) refl (total_same n p es h.1)
    where
      by : (b : Bool) → not (p e) ≡ b → total w (filter (λ e. not (p e)) es) ≡ length (filter (λ e. not (p e)) es) * n →
          total w (cond b (e ∷ filter (λ e. not (p e)) es) (filter (λ e. not (p e)) es))
          ≡ length (cond b (e ∷ filter (λ e. not (p e)) es) (filter (λ e. not (p e)) es)) * n
      by true t k = (λ i. h.0 t i + k i) ∙ omega arith
      by false t k = k

length_split : {A : Type 0} (p : A → Bool) (xs : List A) → length xs ≡ length (filter p xs) + length (filter (λ x. not (p x)) xs)
length_split p [] = refl
length_split p (x ∷ xs) = by (p x) (length_split p xs)
  where
    by : (b : Bool) → length xs ≡ length (filter p xs) + length (filter (λ x. not (p x)) xs) → length (x ∷ xs)
        ≡ length (cond b (x ∷ filter p xs) (filter p xs)) + length (cond (not b) (x ∷ filter (λ x. not (p x)) xs) (filter (λ x. not (p x)) xs))
    by true h = omega (arith, h)
    by false h = omega (arith, h)

module _ (own stubs : SparseArray) (h : AreStubs stubs) where
  -- Subrs and stubs
  abbrev all : SparseArray
  all = merged own stubs

  abbrev is_own : ℕ × List ℕ → Bool
  is_own e = contains_key own e.0

  get_all : (q : ℕ) → get all q ≡ joined (get own q) (get stubs q)
  get_all q = get-merged nat_cmp_total nat_cmp-IsAntisymmetric own stubs q

  -- the entries at the own indices are the own
  own_left : filter is_own (entries all) ≡ entries own
  own_left =
      sym (entries-retain nat_cmp_total nat_cmp-IsAntisymmetric all (contains_key own))
      ∙ ap entries (same_map nat_cmp_total nat_cmp-IsAntisymmetric (retain_keys all (contains_key own)) own
      (λ q. get-retain nat_cmp_total nat_cmp-IsAntisymmetric all (contains_key own) q
      ∙ (ap (λ o. cond (contains_key own q) o None) (get_all q) ∙ kept (get own q) (get stubs q))))
    where
      kept : (x y : Option (List ℕ)) → cond (is_some x) (joined x y) None ≡ x
      kept None y = refl
      kept (Some c) y = refl

  -- all others are stubs
  others : (len_iv : ℕ) → AllByRecursion (λ e. not (is_own e) ≡ true → subr_weight len_iv e.0 e.1 ≡ 129 + len_iv) (entries all)
  others len_iv = entries_all nat_cmp_total nat_cmp-IsAntisymmetric (λ k c. not (contains_key own k) ≡ true → subr_weight len_iv k c ≡ 129 + len_iv) all
      (λ k c is new. by k c (get own k) refl is new)
    where
      by : (k : ℕ) (c : List ℕ) (o : Option (List ℕ)) → get own k ≡ o → get all k ≡ Some c → not (is_some (get own k)) ≡ true →
          subr_weight len_iv k c ≡ 129 + len_iv
      by k c None e is new =
          let stub_there : c ≡ stub = h k c (sym (get_all k ∙ ap (λ o. joined o (get stubs k)) e) ∙ is) in
          ap (subr_weight len_iv k) stub_there ∙ omega arith
      by k c (Some d) e is new = absurd cc

  -- what they weigh together
  pub filled_total : (len_iv : ℕ) → total (subr_weight len_iv) (entries all) ≡ total (subr_weight len_iv) (entries own) + (len all - len own) * (129 + len_iv)
  filled_total len_iv =
      let more = filter (λ e. not (is_own e)) (entries all) in
      let count : length more ≡ len all - len own = omega (arith, length_split is_own (entries all), ap length own_left, len-entries all, len-entries own) in
      total_split (subr_weight len_iv) is_own (entries all)
      ∙ (λ i. total (subr_weight len_iv) (own_left i) + total_same (subr_weight len_iv) (129 + len_iv) is_own (entries all) (others len_iv) i)
      ∙ ap (λ (n : ℕ). total (subr_weight len_iv) (entries own) + n * (129 + len_iv)) count

-- what a font weighs with stubs beside its Subrs
pub filled_weighs : (f : FontValue) (stubs : SparseArray) → AreStubs stubs → (m : SparseArray) → m ≡ merged f.subrs stubs →
    weight (with_subrs f m) ≡ weight f + (len m - len f.subrs) * (129 + f.shell.len_iv)
filled_weighs f stubs h m e =
    let iv = f.shell.len_iv in
    let texts = texts_weight f.shell in
    let glyphs = total (glyph_weight iv) (entries f.glyphs) in
    let own = total (subr_weight iv) (entries f.subrs) in
    (λ i. texts + total (subr_weight iv) (entries (e i)) + glyphs)
    ∙ (ap (λ (n : ℕ). texts + n + glyphs) (filled_total f.subrs stubs h iv)
    ∙ (added texts own ((len (merged f.subrs stubs) - len f.subrs) * (129 + iv)) glyphs
    ∙ (λ i. texts + own + glyphs + (len (sym e i) - len f.subrs) * (129 + iv))))
  where
    added : (a b c d : ℕ) → a + (b + c) + d ≡ a + b + d + c
    added a b c d = omega arith

-- the stubs of a list that are kept are stubs
pub kept_stubs : (indices : List ℕ) (p : ℕ → Bool) → AreStubs (retain_keys (stubs_at indices) p)
kept_stubs indices p i c is = by (p i) (sym (get-retain nat_cmp_total nat_cmp-IsAntisymmetric (stubs_at indices) p i) ∙ is)
  where
    there : (js : List ℕ) → find nat_cmp i (map (λ i. (i, stub)) js) ≡ Some c → c ≡ stub
    there [] h = Some_None (sym h)
    there (j ∷ js) h = at (eq_by_cmp nat_cmp i j) h (there js)
      where
        at : (b : Bool) → cond b (Some stub) (find nat_cmp i (map (λ i. (i, stub)) js)) ≡ Some c →
            (find nat_cmp i (map (λ i. (i, stub)) js) ≡ Some c → c ≡ stub) → c ≡ stub
        at true h more = sym (Some_same h)
        at false h more = more h

    by : (b : Bool) → cond b (get (stubs_at indices) i) None ≡ Some c → c ≡ stub
    by true h = there indices (sym (get-from_entries nat_cmp_total (map (λ i. (i, stub)) indices) i) ∙ h)
    by false h = Some_None (sym h)
