-- Truncated subsets that are normalized merge to the subset over all their names, cut to the largest count and with normalized texts.
use Rattle.std.proofs.Common.{◌≡◌, ◌≤◌, ℕ, nat_lt, nat_cmp, true, cond, List, [], ◌∷◌, map, refl, sym, ◌∙◌, ap, subst, Option, Some, None, option_map, unwrap_or, arith, IsPermutation}
use Rattle.std.proofs.lemmas.Bool.{ltb-true, lt-ltb}
use Rattle.t1_join.{specs.Groupings.{Grouping, one, leaves, from_left}, proofs.OrderLemmas.{leaves_from_left}}
use Rattle.t1_font.specs.FontValue.{FontValue, SubrsShell, SparseArray, name_cmp, total, subr_weight, declared_count}
use Rattle.t1_font.specs.{IsFont.{IsFont, SubrsFit, SubrWords}, Normalizing.{normalized}}
use Rattle.t1_text.specs.FontWords.{IsWord, IsPhrase}
use Rattle.t1_font.specs.NormalTexts.{normal_texts}
use Rattle.t1_font.proofs.{normal_fonts.Normalized.{normal_is_font, normal_fit}, MapLemmas.{get-retain, find_first, total-le, Some_None}}
use Rattle.t1_algebra.specs.{Keep.{keep, kept, subset, IsOf}, Profile.{profile}, Merges.{MergesTo}, Alike.{DrawsAlike}}
use Rattle.t1_algebra.specs.Rejoins.{declares, Truncated, truncated_fonts, truncated_sets, names_of_all, largest}
use Rattle.t1_algebra.proofs.rejoining.NormalCuts.{IsNormalCut, normal_shared, normal_rejoined, NormalCutsRejoin}
use Rattle.t1_algebra.proofs.Words.{AllByRecursion, nat_cmp_total, nat_list_cmp_total, nat_cmp-IsAntisymmetric, Names}
use Rattle.t1_algebra.proofs.{Drawings.{subset_alike, alike}, Fonts.{subset_is_font, any_order_of_fonts}, Kept.{keep_part, keep_more, kept_more, kept_union}}
use Rattle.t1_algebra.proofs.{ManyMerges.{alike_trans, each_font, all_merge}, Sets.{clash, cases}}
use Rattle.t1_algebra.proofs.rejoining.Truncated.{WordsOf, words_empty, get_nothing, get_font, largest_fits, all_fit, Fits, cut_subset, normalized_is, KeepsBelow, keeps_same, subrs_below, runs_below}
use Rattle.t1_algebra.proofs.{rejoining.Truncated.{first_of}, rejoining.Lacking.{nothing_lacks}}
use Rattle.std.specs.FinSet as sets
use Rattle.std.specs.FinMap as maps

-- ---- tables without entries

-- a map that has nothing at any key has no entries
entries_none : (m : SparseArray) → ((q : ℕ) → maps.get m q ≡ None) → maps.entries m ≡ []
entries_none m h =
    ap maps.entries (maps.same_map nat_cmp_total nat_cmp-IsAntisymmetric m (maps.from_sorted []) (λ q. h q ∙ sym (maps.get-from_sorted nat_cmp [] q tt)))
    ∙ maps.entries-from_sorted nat_cmp [] tt

-- a table with entries has words to write them
some_words : (k : ℕ) (v : List ℕ) (es : List (ℕ × List ℕ)) (s : SubrsShell) → maps.find nat_cmp k es ≡ Some v → SubrWords es s →
    IsWord 32 s.rd × IsPhrase true s.put
some_words k v [] s e h = Some_None (sym e)
some_words k v (x ∷ es) s e h = h

-- ---- the shared font is a font

module _ (f : FontValue) (h : IsFont f) (most : ℕ) (fits : most ≤ declared_count f.shell.subrs)
    (t : Truncated) (w : IsNormalCut f t) (le : t.count ≤ most) where
  get_first : (q : ℕ) → maps.get (first_of most f).subrs q ≡ cond (nat_lt q most) (maps.get f.subrs q) None
  get_first q = get-retain nat_cmp_total nat_cmp-IsAntisymmetric f.subrs (λ i. nat_lt i most) q

  -- an entry of the cut font is one of the font, below the count
  had : (q : ℕ) (c : List ℕ) → maps.get (first_of most f).subrs q ≡ Some c → (nat_lt q most ≡ true) × (maps.get f.subrs q ≡ Some c)
  had q c e = grind (cases, e, get_first q)

  -- if the shared font has no entries, the subset has none
  no_entries_there : maps.entries (first_of most f).subrs ≡ [] → maps.entries t.font.subrs ≡ []
  no_entries_there e = entries_none t.font.subrs (λ q.
      grind (cases, get_font f t w q, get_first q, get_nothing (first_of most f).subrs e q, le, ltb-true q t.count, lt-ltb q most))

  -- the words of a table fit the entries of the cut font
  words_first : (s : SubrsShell) → (maps.entries (first_of most f).subrs ≡ [] → WordsOf [] (Some s)) → SubrsFit (normal_texts f.shell) (Some s) f.subrs →
      (es : List (ℕ × List ℕ)) → maps.entries (first_of most f).subrs ≡ es → SubrWords es (declares most s)
  words_first s empty fit [] is = empty is
  words_first s empty fit (x ∷ es) is =
      let there : maps.get (first_of most f).subrs x.0 ≡ Some x.1 =
      maps.get-entries (first_of most f).subrs x.0 ∙ (ap (maps.find nat_cmp x.0) is ∙ find_first nat_cmp_total nat_cmp-IsAntisymmetric x es) in
      some_words x.0 x.1 (maps.entries f.subrs) s (sym (maps.get-entries f.subrs x.0) ∙ (had x.0 x.1 there).1) fit.words

  -- the table of Subrs fits in the cut font
  subrs_fit : (o : Option SubrsShell) → SubrsFit (normal_texts f.shell) o f.subrs → most ≤ declared_count o →
      (maps.entries (first_of most f).subrs ≡ [] → WordsOf [] o) →
      SubrsFit (first_of most f).shell (option_map (declares most) o) (first_of most f).subrs
  subrs_fit None fit few empty =
      (entries_none (first_of most f).subrs (λ q. grind (cases, get_first q, get_nothing f.subrs fit.0 q)), fit.1)
  subrs_fit (Some s) fit few empty = record {
    declared = omega (arith, few, fit.declared);
    below = λ q c e. ltb-true q most (had q c e).0;
    bodies = λ q c e. fit.bodies q c (had q c e).1;
    words = words_first s empty fit (maps.entries (first_of most f).subrs) refl;
    closing = fit.closing;
  }

  -- the Subrs of the cut font weigh no more
  fewer : total (subr_weight f.shell.len_iv) (maps.entries (first_of most f).subrs) ≤ total (subr_weight f.shell.len_iv) (maps.entries f.subrs)
  fewer = total-le nat_cmp_total nat_cmp-IsAntisymmetric (subr_weight f.shell.len_iv)
      (subr_weight f.shell.len_iv) (first_of most f).subrs f.subrs (λ q c e. (c, (had q c e).1, omega arith))

  -- the cut font is a font
  pub first_is_font : IsFont (first_of most f)
  first_is_font =
      let k = normal_is_font 0 f (omega arith) h in
      let c = k.clear in
      let p = k.private in
      let g = h.glyphs in
      record {
        clear = record { head_encoding = c.head_encoding; head_eexec = c.head_eexec; tail_apart = c.tail_apart; tail_ends = c.tail_ends };
        private = record {
          iv = p.iv;
          no_subrs = p.no_subrs;
          no_chars = p.no_chars;
          middle_apart = p.middle_apart;
          middle_chars = p.middle_chars;
          middle_subrs = p.middle_subrs;
          tail_apart = p.tail_apart;
          tail_subrs = p.tail_subrs;
          tail_ends = p.tail_ends;
        };
        texts = record {
          head = k.texts.head;
          clear_tail = k.texts.clear_tail;
          private = k.texts.private;
          middle = k.texts.middle;
          tail = k.texts.tail;
        };
        encoding = h.encoding;
        subrs = subrs_fit f.shell.subrs (normal_fit f.shell f.shell.subrs f.subrs h.subrs) fits
            (λ e. words_empty f h most fits t w le (no_entries_there e));
        glyphs = record { rd = g.rd; def = g.def; names = g.names; bodies = g.bodies; notdef = g.notdef; few = g.few };
        light = omega (arith, fewer, k.light);
      }

-- ---- all the names

no_name : {P : Type 0} (n : List ℕ) → sets.contains {R = name_cmp} sets.empty n ≡ true → P
no_name n e = clash (sets.contains {R = name_cmp} sets.empty n) e (sets.contains-empty name_cmp n)

module _ (f : FontValue) (h : IsFont f) (most : ℕ) where
  -- a set of no names keeps no Subr at the count or above it
  empty_low : (a : Names) → KeepsBelow profile f most a → KeepsBelow profile f most sets.empty
  empty_low a low i k p = low i (kept_more profile f sets.empty a (keep_more profile f sets.empty a (λ n e. no_name n e)) i k) p

  -- all the names are the font's, and they keep no Subr at the count or above it
  all_low : (ts : List Truncated) → KeepsBelow profile f most sets.empty → AllByRecursion (Fits f most) ts →
      KeepsBelow profile f most (names_of_all ts) × IsOf f (names_of_all ts)
  all_low [] e w = (e, λ n k. no_name n k)
  all_low (t ∷ ts) e w =
      let rest = all_low ts e w.1 in
      let both = kept_union profile f t.names (names_of_all ts) h.glyphs.notdef w.0.0.names rest.1 in (
        λ i k p. grind (
          cases,
          both,
          sets.contains-union nat_cmp_total (kept profile f t.names) (kept profile f (names_of_all ts)) i,
          w.0.0.kept i,
          w.0.1,
          rest.0 i,
          k,
          p,
        ),
        λ n k. grind (cases, sets.contains-union nat_list_cmp_total t.names (names_of_all ts) n, w.0.0.names n, rest.1 n, k),
      )

  -- a kept glyph draws in the cut font as it does in the font
  module _ (a : Names) (inside : IsOf f a) (low : KeepsBelow profile f most a) where
    pub start_alike : (n : List ℕ) → sets.contains (keep profile f a) n ≡ true → DrawsAlike f (first_of most f) n
    start_alike n k = alike f (first_of most f) n refl
        (λ c is i e. subrs_below profile f h.glyphs.notdef most a inside low n k i (ap (λ x. sets.contains (profile.exec f.subrs (unwrap_or x [])) i) is ∙ e))
        (λ c p is e. grind (cases, keep_part profile f a h.glyphs.notdef inside n c p k is e, runs_below profile f h.glyphs.notdef most a inside low p))

-- ---- merges

-- the names of truncated subsets are names of the font
names_are : (f : FontValue) (ts : List Truncated) → AllByRecursion (IsNormalCut f) ts → AllByRecursion (IsOf f) (truncated_sets ts)
names_are f [] w = tt
names_are f (t ∷ ts) w = (w.0.names, names_are f ts w.1)

-- the subsets over these sets are fonts
subsets_are : (f : FontValue) → IsFont f → (sets : List Names) → AllByRecursion (IsOf f) sets → AllByRecursion IsFont (map (subset profile f) sets)
subsets_are f h [] w = tt
subsets_are f h (a ∷ more) w = (subset_is_font profile f h a w.0, subsets_are f h more w.1)

module _ (f : FontValue) (h : IsFont f) (t : Truncated) (ts : List Truncated) (w : AllByRecursion (IsNormalCut f) (t ∷ ts)) where
  abbrev most : ℕ
  most = largest (t ∷ ts)

  abbrev shared : FontValue
  shared = normal_shared f (t ∷ ts)

  abbrev names : Names
  names = names_of_all (t ∷ ts)

  -- the shared font is a font
  shared_is : IsFont shared
  shared_is = first_is_font f h most (largest_fits f (t ∷ ts) w) t w.0 (omega arith)

  low : KeepsBelow profile f most names × IsOf f names
  low = all_low f h most (t ∷ ts) (empty_low f h most t.names (λ i k p. omega (arith, w.0.kept i k p))) (all_fit f most (t ∷ ts) (omega arith) w)

  -- the subset of the shared font over all the names is the rejoined font
  whole : subset profile shared names ≡ normal_rejoined f (t ∷ ts)
  whole = cut_subset f h most names low.1 low.0

  -- all the sets are sets of names of the shared font
  parts : AllByRecursion (IsOf shared) (truncated_sets (t ∷ ts))
  parts = names_are f (t ∷ ts) w

  -- truncated subsets that are normalized merge in every order and grouping to the rejoined font
  all_merged : (s : Grouping FontValue) → IsPermutation (normalized (truncated_fonts (t ∷ ts))) (leaves s) → MergesTo s (normal_rejoined f (t ∷ ts))
  all_merged s p =
      let g = subset profile shared t.names in
      let gs = map (subset profile shared) (truncated_sets ts) in
      let order = subst (λ (l : List FontValue). IsPermutation l (leaves s)) (normalized_is f h (t ∷ ts) w ∙ sym (leaves_from_left (one g) gs)) p in
      let all = any_order_of_fonts profile (from_left (one g) gs) s order (each_font g gs (subsets_are shared shared_is (truncated_sets (t ∷ ts)) parts))
      (subset profile shared names) (all_merge shared shared_is t.names (truncated_sets ts) parts) in
      subst (λ (j : FontValue). MergesTo s j) whole (all.1, all.2)

  -- each kept glyph draws in the rejoined font as in the font
  all_drawn : (n : List ℕ) → sets.contains (keep profile f names) n ≡ true → DrawsAlike f (normal_rejoined f (t ∷ ts)) n
  all_drawn n k = alike_trans f shared (normal_rejoined f (t ∷ ts)) n (start_alike f h most names low.1 low.0 n k)
      (subst (λ (j : FontValue). DrawsAlike shared j n) whole (subset_alike shared shared_is names low.1 n
      (ap (λ (s : Names). sets.contains s n) (keeps_same profile f h.glyphs.notdef most names low.1 low.0).0 ∙ k)))

  pub rejoins : NormalCutsRejoin f (t ∷ ts)
  rejoins = record { shared = shared_is; lacks = nothing_lacks f h (t ∷ ts) w; subsets = normalized_is f h (t ∷ ts) w; merges = all_merged; draws = all_drawn }
