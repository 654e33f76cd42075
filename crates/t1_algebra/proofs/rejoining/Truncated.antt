-- Fonts cut to their first Subrs keep and draw what they did, and truncated subsets that are normalized are subsets of one font.
use Rattle.std.proofs.Common.{◌≡◌, ◌<◌, ℕ, nat_lt, true, false, ◌&&◌, cond, List, refl, sym, ◌∙◌, ap, Option, Some, None, is_some, filter, arith, ◌≤◌, max, nat_cmp, Bool, [], ◌∷◌, map, length}
use Rattle.std.proofs.{Common.{subst, option_map}, lemmas.Bool.{and_from, lt-ltb, ltb-true, ltb-false}, lemmas.List.Folds.{list_any-append}}
use Rattle.t1_font.specs.FontValue.{FontValue, notdef, Shell, SubrsShell, SparseArray, declared_count}
use Rattle.t1_font.specs.{IsFont.{IsFont, SubrsFit, SubrWords}, NormalTexts.{normal_texts}, Cut.{stub, restrict_encoding}}
use Rattle.t1_font.specs.Normalizing.{raised, normal_shell, normal, stubs_at, below_count, with_stubs, filled, largest_count, indices_of_all, normalized_shells, filled_all, normalized}
use Rattle.t1_font.specs.FontBoxes.{boxed}
use Rattle.t1_font.proofs.{MapLemmas.{get-retain, get-map_values}, normal_fonts.Boxes.{one_shell_stays}}
use Rattle.t1_algebra.specs.{Keep.{keep, kept, has, charstring, subset, IsOf}, Profile.{profile}, States.{joined_option}}
use Rattle.t1_algebra.specs.Rejoins.{cut_to, with_normal_texts, declares, Truncated, truncated_fonts, truncated_sets, largest}
use Rattle.t1_algebra.proofs.{rejoining.NormalCuts.{IsNormalCut, normal_shared}, Words.{list_any, AllByRecursion, eq_by_cmp, nat_cmp_total, nat_cmp-IsAntisymmetric, Interpreter, Names}}
use Rattle.t1_algebra.proofs.{Kept.{keep_has, kept_call, keeps_alike}, Sets.{clash, any_filtered, cases}, Maps.{get-merged, get-valued}}
use Rattle.std.specs.FinSet as sets
use Rattle.std.specs.FinMap as maps

-- the font with normalized texts, cut to its first Subrs
abbrev pub first_of : ℕ → FontValue → FontValue
first_of count f = cut_to count (with_normal_texts f)

-- the names keep no Subr of the font at the count or above it
abbrev pub KeepsBelow : {O : Type 0} → Interpreter O → FontValue → ℕ → Names → Type 0
KeepsBelow m f count a = (i : ℕ) → sets.contains (kept m f a) i ≡ true → maps.contains_key f.subrs i ≡ true → i < count

module _ {O : Type 0} (m : Interpreter O) (f : FontValue) (base : has f notdef ≡ true)
    (count : ℕ) (a : Names) (inside : IsOf f a) (low : KeepsBelow m f count a) where
  -- the Subrs that a kept glyph executes are as before
  pub subrs_below : (n : List ℕ) → sets.contains (keep m f a) n ≡ true → (i : ℕ) → sets.contains (m.exec f.subrs (charstring f n)) i ≡ true →
      maps.get (first_of count f).subrs i ≡ maps.get f.subrs i
  subrs_below n k i w =
      grind (cases, get-retain nat_cmp_total nat_cmp-IsAntisymmetric f.subrs (λ i. nat_lt i count) i, low i (kept_call m f a i n k w), lt-ltb i count)

  -- a kept glyph runs in the cut font as before
  pub runs_below : (n : List ℕ) → sets.contains (keep m f a) n ≡ true → (m.direct (first_of count f).subrs (charstring f n) ≡ m.direct f.subrs (charstring f n))
      × (m.exec (first_of count f).subrs (charstring f n) ≡ m.exec f.subrs (charstring f n))
  runs_below n k = m.local f.subrs (first_of count f).subrs (charstring f n) (subrs_below n k)

  -- the cut font keeps the same names and Subrs
  pub keeps_same : (keep m (first_of count f) a ≡ keep m f a) × (kept m (first_of count f) a ≡ kept m f a)
  keeps_same = keeps_alike m f (first_of count f) a base inside base inside
      (λ n k. (keep_has m f a n k, ap (λ d. sets.from_list (filter (has f) (m.names d))) (runs_below n k).0, (runs_below n k).1))

-- ---- what a cut subset has

-- the entry that a subset over these names has in place of one of the font
abbrev pub keeps : FontValue → Names → ℕ → List ℕ → List ℕ
keeps f a q c = cond (sets.contains (kept profile f a) q) c stub

-- the entry at an index of the subset that is cut to a count
abbrev pub entry_in : FontValue → Names → ℕ → ℕ → Option (List ℕ) → Option (List ℕ)
entry_in f a n q x = cond (nat_lt q n) (option_map (keeps f a q) x) None

-- a subset cut to a count has that entry at each index
pub get_cut : (f : FontValue) (n : ℕ) (a : Names) (q : ℕ) →
    maps.get (maps.retain_keys (subset profile f a).subrs (λ i. nat_lt i n)) q ≡ entry_in f a n q (maps.get f.subrs q)
get_cut f n a q = get-retain nat_cmp_total nat_cmp-IsAntisymmetric (subset profile f a).subrs (λ i. nat_lt i n) q
    ∙ ap (λ x. cond (nat_lt q n) x None) (get-map_values nat_cmp_total nat_cmp-IsAntisymmetric (keeps f a) f.subrs q)

-- the subset of the cut font is the cut subset
module _ (f : FontValue) (h : IsFont f) (n : ℕ) (a : Names) (inside : IsOf f a) (low : KeepsBelow profile f n a) where
  names_same : keep profile (first_of n f) a ≡ keep profile f a
  names_same = (keeps_same profile f h.glyphs.notdef n a inside low).0

  subrs_same : (q : ℕ) → maps.get (subset profile (first_of n f) a).subrs q ≡ maps.get (maps.retain_keys (subset profile f a).subrs (λ i. nat_lt i n)) q
  subrs_same q =
      let first = get-retain nat_cmp_total nat_cmp-IsAntisymmetric f.subrs (λ i. nat_lt i n) q in
      grind (
        cases,
        get-map_values nat_cmp_total nat_cmp-IsAntisymmetric (keeps (first_of n f) a) (first_of n f).subrs q,
        first,
        get_cut f n a q,
        (keeps_same profile f h.glyphs.notdef n a inside low).1,
      )

  -- the subset of the cut font is the subset, with normalized texts and cut as the font is
  pub cut_subset : subset profile (first_of n f) a ≡ cut_to n (with_normal_texts (subset profile f a))
  cut_subset =
      let subrs = maps.same_map nat_cmp_total nat_cmp-IsAntisymmetric (subset profile (first_of n f) a).subrs
      (maps.retain_keys (subset profile f a).subrs (λ i. nat_lt i n)) subrs_same in
      λ i. record {
        shell = (first_of n f).shell;
        encoding = restrict_encoding (sets.contains (names_same i)) f.encoding;
        subrs = subrs i;
        glyphs = maps.retain_keys f.glyphs (sets.contains (names_same i));
      }

-- ---- counts

-- a table cut to n and raised to a larger count is the table cut to that count
raised_declares : (most n : ℕ) (s : Option SubrsShell) → n ≤ most → option_map (raised most) (option_map (declares n) s) ≡ option_map (declares most) s
raised_declares most n s le = grind cases

module _ (f : FontValue) where
  -- a truncated subset declares its count
  pub count_is : (t : Truncated) → IsNormalCut f t → declared_count t.font.shell.subrs ≡ t.count
  count_is t w = grind (cases, ap (λ (g : FontValue). declared_count g.shell.subrs) w.same, w.count)

  -- the largest count that is declared is the largest of the counts
  pub largest_is : (ts : List Truncated) → AllByRecursion (IsNormalCut f) ts → largest_count (truncated_fonts ts) ≡ largest ts
  largest_is [] w = refl
  largest_is (t ∷ ts) w = λ i. max (count_is t w.0 i) (largest_is ts w.1 i)

  -- the font declares no fewer than the largest of the counts
  pub largest_fits : (ts : List Truncated) → AllByRecursion (IsNormalCut f) ts → largest ts ≤ declared_count f.shell.subrs
  largest_fits [] w = omega arith
  largest_fits (t ∷ ts) w = omega (arith, w.0.count, largest_fits ts w.1)

  -- a truncated subset whose count is at most this
  abbrev pub Fits : ℕ → Truncated → Type 0
  Fits most t = IsNormalCut f t × (t.count ≤ most)

  -- each count is at most the largest
  pub all_fit : (most : ℕ) (ts : List Truncated) → largest ts ≤ most → AllByRecursion (IsNormalCut f) ts → AllByRecursion (Fits most) ts
  all_fit most [] le w = tt
  all_fit most (t ∷ ts) le w = ((w.0, omega (arith, le)), all_fit most ts (omega (arith, le)) w.1)

  -- ---- the indices of all

  -- what a truncated subset has at each index
  pub get_font : (t : Truncated) → IsNormalCut f t → (q : ℕ) → maps.get t.font.subrs q ≡ entry_in f t.names t.count q (maps.get f.subrs q)
  get_font t w q = ap (λ (g : FontValue). maps.get g.subrs q) w.same ∙ get_cut f t.count t.names q

  -- the indices of the Subrs of all fonts, normalized
  abbrev all_indices : ℕ → List Truncated → List ℕ
  all_indices most ts = indices_of_all (map (normal most) (truncated_fonts ts))

  abbrev listed : ℕ → List ℕ → Bool
  listed q indices = list_any (eq_by_cmp nat_cmp q) indices

  -- the indices of all fonts include each index of the font below the largest count
  reached : (most : ℕ) (ts : List Truncated) → AllByRecursion (IsNormalCut f) ts → (q : ℕ) → q < largest ts → maps.contains_key f.subrs q ≡ true →
      listed q (all_indices most ts) ≡ true
  reached most [] w q lt is = absurd (omega (arith, lt))
  reached most (t ∷ ts) w q lt is = grind (
    cases,
    lt,
    is,
    list_any-append (eq_by_cmp nat_cmp q) (maps.keys t.font.subrs) (all_indices most ts),
    maps.contains_key-keys t.font.subrs q,
    get_font t w.0 q,
    reached most ts w.1 q,
    ltb-false q t.count,
  )

  -- each of the indices of all fonts is an index of the font
  from_indices : (most : ℕ) (ts : List Truncated) → AllByRecursion (IsNormalCut f) ts → (q : ℕ) → listed q (all_indices most ts) ≡ true →
      maps.contains_key f.subrs q ≡ true
  from_indices most [] w q l = clash false l refl
  from_indices most (t ∷ ts) w q l = grind (
    cases,
    l,
    list_any-append (eq_by_cmp nat_cmp q) (maps.keys t.font.subrs) (all_indices most ts),
    maps.contains_key-keys t.font.subrs q,
    get_font t w.0 q,
    from_indices most ts w.1 q,
  )

-- ---- tables without entries

-- there are words for these entries, if there is a table
abbrev pub WordsOf : List (ℕ × List ℕ) → Option SubrsShell → Type 0
WordsOf es None = Unit {0}
WordsOf es (Some s) = SubrWords es s

-- a table that fits has words for its entries
pub words_of : (s : Shell) (o : Option SubrsShell) (m : SparseArray) → SubrsFit s o m → WordsOf (maps.entries m) o
words_of s None m h = tt
words_of s (Some t) m h = h.words

-- another count leaves the words as they are
words_declared : (n : ℕ) (o : Option SubrsShell) → WordsOf [] (option_map (declares n) o) → WordsOf [] o
words_declared n None h = tt
words_declared n (Some s) h = h

-- a table whose word for entries is empty has no entries
no_words : (es : List (ℕ × List ℕ)) (s : SubrsShell) → SubrWords es s → s.rd ≡ [] → es ≡ []
no_words [] s h e = refl
no_words (x ∷ es) s h e = absurd (omega (arith, h.0.some, ap length e))

-- a table that fits without words has no entries
no_entries : (s : Shell) (o : Option SubrsShell) (m : SparseArray) → SubrsFit s o m → WordsOf [] o → maps.entries m ≡ []
no_entries s None m h e = h.0
no_entries s (Some t) m h e = no_words (maps.entries m) t h.words e.0

-- a map without entries has nothing at any key
pub get_nothing : (m : SparseArray) → maps.entries m ≡ [] → (q : ℕ) → maps.get m q ≡ None
get_nothing m e q = maps.get-entries m q ∙ ap (maps.find nat_cmp q) e

-- a font with entries has a table, so a cut to n declares n
has_table : (s : Shell) (o : Option SubrsShell) (m : SparseArray) → SubrsFit s o m → (q : ℕ) → maps.contains_key m q ≡ true → (n : ℕ) → n ≤ declared_count o →
    declared_count (option_map (declares n) o) ≡ n
has_table s None m h q is n le = clash (maps.contains_key m q) is (ap is_some (get_nothing m h.0 q))
has_table s (Some t) m h q is n le = refl

-- where both hold, each does
both_so : (a b : Bool) → (a && b) ≡ true → (a ≡ true) × (b ≡ true)
both_so true b h = (refl, h)
both_so false b h = clash false h refl

-- An entry x of a font, in a subset that keeps it or not (k) and is cut to a smaller count (low) or a larger one (lower), where a stub stands (b) wherever
-- the font has an entry below the larger count.
same_value : (k low lower b : Bool) (x : Option (List ℕ)) → (low ≡ true → lower ≡ true) → (b ≡ true → lower ≡ true) → (b ≡ true → is_some x ≡ true) →
    (lower ≡ true → is_some x ≡ true → b ≡ true) → (k ≡ true → is_some x ≡ true → low ≡ true)
    → joined_option (cond low (option_map (λ c. cond k c stub) x) None) (cond b (Some stub) None) ≡ cond lower (option_map (λ c. cond k c stub) x) None
same_value k true true b (Some c) h i j l m = refl
same_value k true true true None h i j l m = clash false (j refl) refl
same_value k true true false None h i j l m = refl
same_value k true false b x h i j l m = clash false (h refl) refl
same_value k false false true x h i j l m = clash false (i refl) refl
same_value k false false false x h i j l m = refl
same_value k false true true None h i j l m = clash false (j refl) refl
same_value k false true false None h i j l m = refl
same_value true false true b (Some c) h i j l m = clash false (m refl refl) refl
same_value false false true true (Some c) h i j l m = refl
same_value false false true false (Some c) h i j l m = clash false (l refl refl) refl

module _ (f : FontValue) (h : IsFont f) (most : ℕ) (fits : most ≤ declared_count f.shell.subrs)
    (t : Truncated) (w : IsNormalCut f t) (le : t.count ≤ most) where
  -- if a truncated subset has no entries, the table of the font has no words
  pub words_empty : maps.entries t.font.subrs ≡ [] → WordsOf [] f.shell.subrs
  words_empty e = words_declared t.count f.shell.subrs (subst (WordsOf []) (ap (λ (g : FontValue). g.shell.subrs) w.same)
      (subst (λ (es : List (ℕ × List ℕ)). WordsOf es t.font.shell.subrs) e (words_of t.font.shell t.font.shell.subrs t.font.subrs w.font.subrs)))

  -- if a truncated subset has no entries, the font has none
  nothing : maps.entries t.font.subrs ≡ [] → (q : ℕ) → maps.get f.subrs q ≡ None
  nothing e = get_nothing f.subrs (no_entries f.shell f.shell.subrs f.subrs h.subrs (words_empty e))

  -- the shell of a truncated subset, normalized, is that of the cut font
  shell_same : normal_shell most t.font.shell ≡ (first_of most f).shell
  shell_same =
      (λ i. record (w.same i).shell { subrs = option_map (raised most) (w.same i).shell.subrs })
      ∙ (λ i. record (normal_texts f.shell) { subrs = raised_declares most t.count f.shell.subrs le i })

  -- how many Subrs are declared once the font is normalized
  abbrev declared : ℕ
  declared = declared_count (normal most t.font).shell.subrs

  declared_is : declared ≡ declared_count (option_map (declares most) f.shell.subrs)
  declared_is = ap (λ (s : Shell). declared_count s.subrs) shell_same

  declared_low : declared ≤ most
  declared_low = grind (cases, declared_is)

  module _ (indices : List ℕ) (there : (q : ℕ) → q < most → maps.contains_key f.subrs q ≡ true → list_any (eq_by_cmp nat_cmp q) indices ≡ true)
      (from : (q : ℕ) → list_any (eq_by_cmp nat_cmp q) indices ≡ true → maps.contains_key f.subrs q ≡ true) where
    -- the indices that are then declared
    abbrev inside : List ℕ
    inside = below_count declared indices

    abbrev is_in : ℕ → Bool
    is_in q = list_any (eq_by_cmp nat_cmp q) inside

    -- an index of all fonts is one of these if it is below what is declared
    in_both : (q : ℕ) → is_in q ≡ (nat_lt q declared && list_any (eq_by_cmp nat_cmp q) indices)
    in_both q = any_filtered nat_cmp_total nat_cmp-IsAntisymmetric (λ i. nat_lt i declared) q indices

    -- a stub can stand at each index of the font below the count
    under : (q : ℕ) → q < most → maps.contains_key f.subrs q ≡ true → is_in q ≡ true
    under q lt is = in_both q
        ∙ and_from _ _ (lt-ltb q declared (omega (arith, lt, declared_is, has_table f.shell f.shell.subrs f.subrs h.subrs q is most fits))) (there q lt is)

    -- an index that is declared and one of all is below the count, and one of the font
    is_below : (q : ℕ) → is_in q ≡ true → (nat_lt q most ≡ true) × (maps.contains_key f.subrs q ≡ true)
    is_below q i =
        let both = both_so (nat_lt q declared) (list_any (eq_by_cmp nat_cmp q) indices) (sym (in_both q) ∙ i) in
        (lt-ltb q most (omega (arith, ltb-true q declared both.0, declared_low)), from q both.1)

    -- the entry of a truncated subset, or else a stub, is the entry of the subset cut to the largest count
    value_same : (q : ℕ) →
        joined_option (entry_in f t.names t.count q (maps.get f.subrs q)) (cond (is_in q) (Some stub) None) ≡ entry_in f t.names most q (maps.get f.subrs q)
    value_same q =
        same_value (sets.contains (kept profile f t.names) q) (nat_lt q t.count) (nat_lt q most) (is_in q) (maps.get f.subrs q)
        (λ lt. lt-ltb q most (omega (arith, ltb-true q t.count lt, le))) (λ i. (is_below q i).0) (λ i. (is_below q i).1)
        (λ lt is. under q (ltb-true q most lt) is) (λ k is. lt-ltb q t.count (w.kept q k is))

    -- the font that is normalized has the entry of the subset cut to the largest count at each index
    filled_at : (es : List (ℕ × List ℕ)) → maps.entries t.font.subrs ≡ es → (q : ℕ) →
        maps.get (with_stubs inside t.font.subrs es) q ≡ entry_in f t.names most q (maps.get f.subrs q)
    filled_at [] e q = grind (cases, get_nothing t.font.subrs e q, nothing e q)
    filled_at (x ∷ es) e q = grind (
      cases,
      get-merged nat_cmp_total nat_cmp-IsAntisymmetric t.font.subrs (stubs_at inside) q,
      get_font f t w q,
      get-valued nat_cmp_total stub inside q,
      value_same q,
    )

    -- the truncated subset, normalized, is the subset with normalized texts, cut to the largest count
    pub made_is : filled indices (normal most t.font) ≡ cut_to most (with_normal_texts (subset profile f t.names))
    made_is =
        let subrs = maps.same_map nat_cmp_total nat_cmp-IsAntisymmetric (filled indices (normal most t.font)).subrs
        (maps.retain_keys (subset profile f t.names).subrs (λ i. nat_lt i most))
        (λ q. filled_at (maps.entries t.font.subrs) refl q ∙ sym (get_cut f most t.names q)) in
        λ i. record { shell = shell_same i; encoding = (w.same i).encoding; subrs = subrs i; glyphs = (w.same i).glyphs }

    -- the truncated subset, normalized, is a subset of the shared font
    pub made_subset : filled indices (normal most t.font) ≡ subset profile (first_of most f) t.names
    made_subset = made_is ∙ sym (cut_subset f h most t.names w.names (λ i k p. omega (arith, w.kept i k p, le)))

-- ---- the fonts of a list

module _ (f : FontValue) (h : IsFont f) (most : ℕ) (fits : most ≤ declared_count f.shell.subrs) (indices : List ℕ)
    (there : (q : ℕ) → q < most → maps.contains_key f.subrs q ≡ true → list_any (eq_by_cmp nat_cmp q) indices ≡ true)
    (from : (q : ℕ) → list_any (eq_by_cmp nat_cmp q) indices ≡ true → maps.contains_key f.subrs q ≡ true) where
  made_subsets : (ts : List Truncated) → AllByRecursion (Fits f most) ts →
      map (filled indices) (map (normal most) (truncated_fonts ts)) ≡ map (subset profile (first_of most f)) (truncated_sets ts)
  made_subsets [] w = refl
  made_subsets (t ∷ ts) w = λ i. made_subset f h most fits t w.0.0 w.0.1 indices there from i ∷ made_subsets ts w.1 i

-- truncated subsets have the shell of the shared font once they are normalized, so they have one box
module _ (f : FontValue) (h : IsFont f) (most : ℕ) (fits : most ≤ declared_count f.shell.subrs) where
  one_shell : (ts : List Truncated) → AllByRecursion (Fits f most) ts →
      AllByRecursion (λ g. g.shell ≡ (first_of most f).shell) (map (normal most) (truncated_fonts ts))
  one_shell [] w = tt
  one_shell (t ∷ ts) w = (shell_same f h most fits t w.0.0 w.0.1, one_shell ts w.1)

pub shells_are : (f : FontValue) → IsFont f → (ts : List Truncated) → AllByRecursion (IsNormalCut f) ts →
    normalized_shells (truncated_fonts ts) ≡ map (normal (largest ts)) (truncated_fonts ts)
shells_are f h ts w =
    ap (λ (n : ℕ). boxed (map (normal n) (truncated_fonts ts))) (largest_is f ts w)
    ∙ one_shell_stays (first_of (largest ts) f).shell (map (normal (largest ts)) (truncated_fonts ts))
    (one_shell f h (largest ts) (largest_fits f ts w) ts (all_fit f (largest ts) ts (omega arith) w))

-- truncated subsets that are normalized are subsets of the shared font
pub normalized_is : (f : FontValue) → IsFont f → (ts : List Truncated) → AllByRecursion (IsNormalCut f) ts →
    normalized (truncated_fonts ts) ≡ map (subset profile (normal_shared f ts)) (truncated_sets ts)
normalized_is f h ts w =
    let most = largest ts in
    ap filled_all (shells_are f h ts w)
    ∙ made_subsets f h most (largest_fits f ts w) (all_indices f most ts) (λ q lt is. reached f most ts w q lt is)
    (λ q l. from_indices f most ts w q l) ts (all_fit f most ts (omega arith) w)
