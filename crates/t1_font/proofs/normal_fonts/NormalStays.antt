-- A font that is normalized stays as it is, and so do fonts that agree with each other.
use Rattle.std.proofs.{Common.{◌≡◌, ℕ, ◌≤◌, arith, Bool, true, false, cond, ◌||◌, List, [], ◌∷◌, map, Option, Some, None, is_some, refl, sym, ap, ◌∙◌, true≢false}, lemmas.Bool.{and_parts}}
use Rattle.std.specs.{Prelude.{max, nat_lt}, List.{AllByRecursion, list_all}, Option.{option_map}, Cmp.{nat_cmp_total}}
use Rattle.std.specs.FinMap.{get, entries, keys, contains_key, contains_key-keys, get-from_entries, same_map, nat_cmp-IsAntisymmetric}
use Rattle.t1_font.specs.{NormalTexts.{normal_texts}, FontBoxes.{box_of, can_have, font_with, boxed}, FontValue.{FontValue, SubrsShell, SparseArray, declared_count}, Cut.{stub}}
use Rattle.t1_text.specs.Boxes.{Box, joined_box}
use Rattle.t1_font.specs.{Maps.{merged}, Normalizing.{raised, normal, stubs_at, below_count, with_stubs, filled, largest_count, indices_of_all, each_normal, normalized_shells, filled_all, normalized}}
use Rattle.t1_font.specs.NormalizingLaws.{NormalStays, FilledStays, NormalizedTwice, IsNormalWith, NormalFontsStay}
use Rattle.t1_font.proofs.{MapLemmas.{joined, get-merged, get-retain}, normal_fonts.Normalized.{stubs_below}}
use Rattle.t1_font.proofs.{normal_fonts.Filled.{is_one, find_stub, indices_next}, normal_fonts.NormalTexts.{normal_texts_stay}}
use Rattle.t1_font.proofs.{normal_fonts.Boxes.{by_cases, normal_still, one_box_stays}, normal_fonts.Boxing.{filled_boxed}}

max_small : (n m : ℕ) → n ≤ m → max n m ≡ m
max_small n m h = omega (arith, h)

table_stays : (n : ℕ) (o : Option SubrsShell) → n ≤ declared_count o → option_map (raised n) o ≡ o
table_stays n None h = refl
table_stays n (Some t) h = λ i. Some (record { declared = max_small n t.declared h i; rd = t.rd; put = t.put; closing = t.closing })

pub normal_stays : NormalStays
normal_stays n f texts count = λ i. record {
  shell = record (texts i) { subrs = table_stays n f.shell.subrs count i };
  encoding = f.encoding;
  subrs = f.subrs;
  glyphs = f.glyphs;
}

own_or_none : (o : Option (List ℕ)) (b c : Bool) → (b ≡ true → is_some o ≡ true) → joined o (cond c (cond b (Some stub) None) None) ≡ o
own_or_none (Some v) b c h = refl
own_or_none None true c h = absurd (true≢false (sym (h refl)))
own_or_none None false true h = refl
own_or_none None false false h = refl

-- what a map says of an index where stubs were put in
pub get_filled : (m : SparseArray) (n : ℕ) (indices : List ℕ) (q : ℕ) →
    get (merged m (stubs_at (below_count n indices))) q ≡ joined (get m q) (cond (nat_lt q n) (cond (is_one q indices) (Some stub) None) None)
get_filled m n indices q =
    get-merged nat_cmp_total nat_cmp-IsAntisymmetric m (stubs_at (below_count n indices)) q
    ∙ ap (joined (get m q))
    (ap (λ (k : SparseArray). get k q) (stubs_below n indices)
    ∙ (get-retain nat_cmp_total nat_cmp-IsAntisymmetric (stubs_at indices) (λ i. nat_lt i n) q
    ∙ ap (λ (o : Option (List ℕ)). cond (nat_lt q n) o None) (get-from_entries nat_cmp_total (map (λ i. (i, stub)) indices) q ∙ find_stub q indices)))

-- each of these indices is one of the map's
abbrev pub AreIn : List ℕ → SparseArray → Type 0
AreIn indices m = (q : ℕ) → is_one q indices ≡ true → contains_key m q ≡ true

-- a map that lacks none of these indices stays
own_stubs : (m : SparseArray) (n : ℕ) (indices : List ℕ) → AreIn indices m → merged m (stubs_at (below_count n indices)) ≡ m
own_stubs m n indices own = same_map nat_cmp_total nat_cmp-IsAntisymmetric _ _ (λ q.
    get_filled m n indices q ∙ own_or_none (get m q) (is_one q indices) (nat_lt q n) (own q))

subrs_stay : (m : SparseArray) (n : ℕ) (indices : List ℕ) → AreIn indices m → (es : List (ℕ × List ℕ)) → with_stubs (below_count n indices) m es ≡ m
subrs_stay m n indices own [] = refl
subrs_stay m n indices own (e ∷ es) = own_stubs m n indices own

-- a font that lacks none of the indices stays
pub font_stays : (f : FontValue) (indices : List ℕ) → AreIn indices f.subrs → filled indices f ≡ f
font_stays f indices own = λ i. record {
  shell = f.shell;
  encoding = f.encoding;
  subrs = subrs_stay f.subrs (declared_count f.shell.subrs) indices own (entries f.subrs) i;
  glyphs = f.glyphs;
}

pub filled_stays : FilledStays
filled_stays f = font_stays f (keys f.subrs) (λ q one. contains_key-keys f.subrs q ∙ one)

-- ---- fonts that agree with one of them

counts_below : (n : ℕ) (fs : List FontValue) → AllByRecursion (λ f. declared_count f.shell.subrs ≡ n) fs → largest_count fs ≤ n
counts_below n [] h = omega arith
counts_below n (f ∷ fs) h = let rest = counts_below n fs h.1 in omega (arith, h.0, rest)

by_either : {P : Type 0} (a b : Bool) → (a || b) ≡ true → (a ≡ true → P) → (b ≡ true → P) → P
by_either true b h own rest = own refl
by_either false b h own rest = rest h

indices_in : (m : SparseArray) (fs : List FontValue) → AllByRecursion (λ f. (i : ℕ) → contains_key f.subrs i ≡ contains_key m i) fs →
    AreIn (indices_of_all fs) m
indices_in m [] h q one = absurd (true≢false (sym one))
indices_in m (f ∷ fs) h q one =
    by_either (contains_key f.subrs q) (is_one q (indices_of_all fs)) (sym (indices_next q f fs) ∙ one) (λ own. sym (h.0 q) ∙ own) (indices_in m fs h.1 q)

all_of : {P Q : FontValue → Type 0} → ((f : FontValue) → P f → Q f) → (fs : List FontValue) → AllByRecursion P fs → AllByRecursion Q fs
all_of t [] h = tt
all_of t (f ∷ fs) h = (t f h.0, all_of t fs h.1)

-- a list of which a function leaves each as it is
pub each_stays : (g : FontValue → FontValue) (fs : List FontValue) → AllByRecursion (λ f. g f ≡ f) fs → map g fs ≡ fs
each_stays g [] h = refl
each_stays g (f ∷ fs) h = λ i. h.0 i ∷ each_stays g fs h.1 i

pub normal_fonts_stay : NormalFontsStay
normal_fonts_stay f fs h =
    let counts = counts_below (declared_count f.shell.subrs) fs (all_of (λ g (e : IsNormalWith f g). e.count) fs h) in
    let each : each_normal fs ≡ fs = each_stays (normal (largest_count fs)) fs
    (all_of (λ g (e : IsNormalWith f g). normal_stays (largest_count fs) g e.texts (omega (arith, counts, e.count))) fs h) in
    let shells : normalized_shells fs ≡ fs = ap boxed each ∙ one_box_stays (box_of f.shell) fs (all_of (λ g (e : IsNormalWith f g). e.box) fs h) in
    let own = indices_in f.subrs fs (all_of (λ g (e : IsNormalWith f g). e.present) fs h) in
    ap filled_all shells
    ∙ each_stays (filled (indices_of_all fs)) fs (all_of (λ g (e : IsNormalWith f g). font_stays g (indices_of_all fs) (λ q one. e.present q ∙ own q one)) fs h)

-- ---- fonts that were normalized

raised_twice : (n k : ℕ) (o : Option SubrsShell) → n ≤ k → option_map (raised n) (option_map (raised k) o) ≡ option_map (raised k) o
raised_twice n k None h = refl
raised_twice n k (Some t) h = λ i. Some (record { declared = max_small n (max k t.declared) (omega (arith, h)) i; rd = t.rd; put = t.put; closing = t.closing })

raised_count : (n : ℕ) (o : Option SubrsShell) → declared_count o ≤ n → declared_count (option_map (raised n) o) ≤ n
raised_count n None h = omega arith
raised_count n (Some t) h = omega (arith, h)

-- a font of normalized texts, which declares n Subrs if it has a table
record IsNormal (n : ℕ) (f : FontValue) : Type 0 where
  texts : normal_texts f.shell ≡ f.shell
  table : (k : ℕ) → k ≤ n → option_map (raised k) f.shell.subrs ≡ f.shell.subrs
  count : declared_count f.shell.subrs ≤ n

module _ (n : ℕ) where
  -- normalized fonts are
  made_normal : (fs : List FontValue) → largest_count fs ≤ n → AllByRecursion (IsNormal n) (map (normal n) fs)
  made_normal [] h = tt
  made_normal (f ∷ fs) h = (
    record {
      texts = λ i. record (normal_texts_stay f.shell i) { subrs = option_map (raised n) f.shell.subrs };
      table = λ k le. raised_twice k n f.shell.subrs le;
      count = raised_count n f.shell.subrs (omega (arith, h));
    },
    made_normal fs (omega (arith, h)),
  )

  -- and so with one box
  box_normal : (u : Box) (fs : List FontValue) → list_all (can_have u) fs ≡ true →
      AllByRecursion (IsNormal n) fs → AllByRecursion (IsNormal n) (map (font_with u) fs)
  box_normal u [] t h = tt
  box_normal u (f ∷ fs) t h =
      let both = and_parts (can_have u f) (list_all (can_have u) fs) t in
      (record { texts = normal_still u f both.0 h.0.texts; table = h.0.table; count = h.0.count }, box_normal u fs both.1 h.1)

  boxed_normal : (fs : List FontValue) → AllByRecursion (IsNormal n) fs → AllByRecursion (IsNormal n) (boxed fs)
  boxed_normal fs h = by_cases (AllByRecursion (IsNormal n)) fs (λ _. h) (λ bs e t. box_normal (joined_box bs) fs t h)

  -- and filled
  filled_normal : (indices : List ℕ) (fs : List FontValue) → AllByRecursion (IsNormal n) fs → AllByRecursion (IsNormal n) (map (filled indices) fs)
  filled_normal indices [] h = tt
  filled_normal indices (f ∷ fs) h = (record { texts = h.0.texts; table = h.0.table; count = h.0.count }, filled_normal indices fs h.1)

  counts_small : (fs : List FontValue) → AllByRecursion (IsNormal n) fs → largest_count fs ≤ n
  counts_small [] h = omega arith
  counts_small (f ∷ fs) h = let rest = counts_small fs h.1 in omega (arith, h.0.count, rest)

  -- they stay when they are normalized again
  stay_normal : (k : ℕ) (fs : List FontValue) → k ≤ n → AllByRecursion (IsNormal n) fs → map (normal k) fs ≡ fs
  stay_normal k [] le h = refl
  stay_normal k (f ∷ fs) le h = λ i. record {
    shell = record (h.0.texts i) { subrs = h.0.table k le i };
    encoding = f.encoding;
    subrs = f.subrs;
    glyphs = f.glyphs;
  } ∷ stay_normal k fs le h.1 i

-- the indices of both are among the indices of all
abbrev pub Among : List ℕ → List ℕ → Type 0
Among some all = (q : ℕ) → is_one q some ≡ true → is_one q all ≡ true

filled_or_own : (o : Option (List ℕ)) (b c : Bool) → (is_some o ≡ true → b ≡ true) →
    is_some (joined o (cond c (cond b (Some stub) None) None)) ≡ true → b ≡ true
filled_or_own (Some v) b c h e = h refl
filled_or_own None true c h e = refl
filled_or_own None false true h e = e
filled_or_own None false false h e = e

-- what is filled has no index but these
filled_among : (m : SparseArray) (n : ℕ) (indices : List ℕ) (q : ℕ) → (contains_key m q ≡ true → is_one q indices ≡ true) →
    (es : List (ℕ × List ℕ)) → contains_key (with_stubs (below_count n indices) m es) q ≡ true → is_one q indices ≡ true
filled_among m n indices q own [] h = own h
filled_among m n indices q own (e ∷ es) h = filled_or_own (get m q) (is_one q indices) (nat_lt q n) own (ap is_some (sym (get_filled m n indices q)) ∙ h)

left_true : (a b : Bool) → a ≡ true → (a || b) ≡ true
left_true true b h = refl
left_true false b h = absurd (true≢false (sym h))

right_true : (a b : Bool) → b ≡ true → (a || b) ≡ true
right_true true b h = refl
right_true false b h = h

indices_again : (indices : List ℕ) (fs : List FontValue) → Among (indices_of_all fs) indices → Among (indices_of_all (map (filled indices) fs)) indices
indices_again indices [] h q one = absurd (true≢false (sym one))
indices_again indices (f ∷ fs) h q one =
    by_either (contains_key (filled indices f).subrs q) (is_one q (indices_of_all (map (filled indices) fs)))
    (sym (indices_next q (filled indices f) (map (filled indices) fs)) ∙ one)
    (filled_among f.subrs (declared_count f.shell.subrs) indices q
    (λ own. h q (indices_next q f fs ∙ left_true (contains_key f.subrs q) (is_one q (indices_of_all fs)) own)) (entries f.subrs))
    (indices_again indices fs (λ p l. h p (indices_next p f fs ∙ right_true (contains_key f.subrs p) (is_one p (indices_of_all fs)) l)) q)

fills_once : (o : Option (List ℕ)) (b c d : Bool) → (d ≡ true → b ≡ true) →
    joined (joined o (cond c (cond b (Some stub) None) None)) (cond c (cond d (Some stub) None) None) ≡ joined o (cond c (cond b (Some stub) None) None)
fills_once (Some v) b c d h = refl
fills_once None true true d h = refl
fills_once None true false d h = refl
fills_once None false false d h = refl
fills_once None false true true h = absurd (true≢false (sym (h refl)))
fills_once None false true false h = refl

-- Subrs that are filled at some indices stay when they are filled at some of these
filled_again : (m : SparseArray) (n : ℕ) (indices more : List ℕ) → Among more indices → (es : List (ℕ × List ℕ)) → entries m ≡ es →
    with_stubs (below_count n more) (with_stubs (below_count n indices) m es) (entries (with_stubs (below_count n indices) m es))
    ≡ with_stubs (below_count n indices) m es
filled_again m n indices more h [] none = ap (with_stubs (below_count n more) m) none
filled_again m n indices more h (e ∷ es) is = by_entries (entries (merged m (stubs_at (below_count n indices))))
  where
    by_entries : (ds : List (ℕ × List ℕ)) → with_stubs (below_count n more) (merged m (stubs_at (below_count n indices))) ds
        ≡ merged m (stubs_at (below_count n indices))
    by_entries [] = refl
    by_entries (d ∷ ds) = same_map nat_cmp_total nat_cmp-IsAntisymmetric _ _ (λ q.
        get_filled (merged m (stubs_at (below_count n indices))) n more q
        ∙ (ap (λ (o : Option (List ℕ)). joined o (cond (nat_lt q n) (cond (is_one q more) (Some stub) None) None)) (get_filled m n indices q)
        ∙ (fills_once (get m q) (is_one q indices) (nat_lt q n) (is_one q more) (h q) ∙ sym (get_filled m n indices q))))

fill_twice : (indices more : List ℕ) → Among more indices → (fs : List FontValue) → map (filled more) (map (filled indices) fs) ≡ map (filled indices) fs
fill_twice indices more h [] = refl
fill_twice indices more h (f ∷ fs) = λ i. record {
  shell = f.shell;
  encoding = f.encoding;
  subrs = filled_again f.subrs (declared_count f.shell.subrs) indices more h (entries f.subrs) refl i;
  glyphs = f.glyphs;
} ∷ fill_twice indices more h fs i

pub normalized_twice : NormalizedTwice
normalized_twice fs =
    let n = largest_count fs in
    let indices = indices_of_all (normalized_shells fs) in
    let all = filled_normal n indices (normalized_shells fs) (boxed_normal n (each_normal fs) (made_normal n fs (omega arith))) in
    let each : each_normal (normalized fs) ≡ normalized fs =
    stay_normal n (largest_count (normalized fs)) (normalized fs) (counts_small n (normalized fs) all) all in
    let shells : normalized_shells (normalized fs) ≡ normalized fs = ap boxed each ∙ filled_boxed indices (each_normal fs) in
    ap filled_all shells ∙ fill_twice indices (indices_of_all (normalized fs)) (indices_again indices (normalized_shells fs) (λ q h. h)) (normalized_shells fs)
