-- Truncated subsets of one font lack no Subr that their glyphs execute and another of them has, and fonts that merge have the same indices.
use Rattle.std.proofs.{Common.{◌≡◌, ℕ, zero, suc, Bool, true, false, not, ◌&&◌, cond, List, [], ◌∷◌, map, refl, ◌∙◌, ap, Option, Some, None, option_map, unwrap_or}, lemmas.Bool.{lt-ltb}}
use Rattle.std.specs.List.{find}
use Rattle.t1_font.specs.FontValue.{FontValue, declared_count, names_in}
use Rattle.t1_font.specs.{Normalizing.{normal, largest_count, each_normal, normalized_shells}, NormalizingLaws.{IsNormalWith}, IsFont.{IsFont}, FontBoxes.{box_of}}
use Rattle.t1_font.proofs.{MapLemmas.{get-retain}, normal_fonts.Boxes.{one_box_stays}}
use Rattle.t1_algebra.specs.{Keep.{keep, kept}, Profile.{profile}, States.{executes, executed_at}, Searches.{found}, Lacks.{Lack, user_of, first_below, is_had, lack_at, lack_among, first_lack}}
use Rattle.t1_algebra.specs.Rejoins.{Truncated, with_normal_texts, truncated_fonts, largest}
use Rattle.t1_algebra.proofs.{rejoining.NormalCuts.{IsNormalCut}, Words.{AllByRecursion, nat_list_cmp_total}, Kept.{kept_call}}
use Rattle.t1_algebra.proofs.{Sets.{clash, cases, name_same}, rejoining.Truncated.{get_font, shells_are}}
use Rattle.std.specs.FinMap as maps
use Rattle.std.specs.FinSet as sets

-- ---- where nothing is found

none_below : {X : Type 0} (value : ℕ → Option X) (n : ℕ) → ((i : ℕ) → value i ≡ None) → first_below value n ≡ None
none_below value zero h = refl
none_below value (suc n) h = λ i. found (λ x. x) (none_below value n h i) (h n i)

none_passes : {X : Type 0} (p : X → Bool) (xs : List X) → ((x : X) → p x ≡ false) → find p xs ≡ None
none_passes p [] h = refl
none_passes p (x ∷ xs) h = ap (λ b. cond b (Some x) (find p xs)) (h x) ∙ none_passes p xs h

none_among : (all fs : List FontValue) → AllByRecursion (λ f. (i : ℕ) → lack_at all f i ≡ None) fs → lack_among all fs ≡ None
none_among all [] h = refl
none_among all (f ∷ fs) h = λ i. found (λ (l : Lack). l) (none_below (lack_at all f) (declared_count f.shell.subrs) h.0 i) (none_among all fs h.1 i)

-- the index, with a user if there is one
abbrev told : ℕ → Option (List ℕ) → Option Lack
told i user = option_map (λ n. (i, n)) user

-- ---- truncated subsets

module _ (f : FontValue) where
  -- one of truncated subsets has only what the font has
  had_there : (most : ℕ) (ts : List Truncated) → AllByRecursion (IsNormalCut f) ts → (i : ℕ) → is_had (map (normal most) (truncated_fonts ts)) i ≡ true →
      maps.contains_key f.subrs i ≡ true
  had_there most [] w i l = clash false l refl
  had_there most (t ∷ ts) w i l = grind (cases, l, get_font f t w.0 i, had_there most ts w.1 i)

  module _ (t : Truncated) (w : IsNormalCut f t) where
    -- a glyph of a truncated subset is one that the font has and the names keep
    glyph_there : (n c : List ℕ) → maps.get t.font.glyphs n ≡ Some c → (maps.get f.glyphs n ≡ Some c) × (sets.contains (keep profile f t.names) n ≡ true)
    glyph_there n c is =
        let there = ap (λ (g : FontValue). maps.get g.glyphs n) w.same
        ∙ get-retain nat_list_cmp_total name_same f.glyphs (sets.contains (keep profile f t.names)) n in
        grind (cases, is, there)

    module _ (n c : List ℕ) (is : maps.get t.font.glyphs n ≡ Some c) where
      -- each Subr that it executes in the font is kept
      executed_kept : (i : ℕ) → sets.contains (profile.exec f.subrs c) i ≡ true → sets.contains (kept profile f t.names) i ≡ true
      executed_kept i h =
          let there = glyph_there n c is in
          kept_call profile f t.names i n there.1 (ap (λ (o : Option (List ℕ)). sets.contains (profile.exec f.subrs (unwrap_or o [])) i) there.0 ∙ h)

      -- and is there as in the font
      executed_there : (i : ℕ) → sets.contains (profile.exec f.subrs c) i ≡ true → maps.get t.font.subrs i ≡ maps.get f.subrs i
      executed_there i h = grind (cases, get_font f t w i, executed_kept i h, w.kept i, lt-ltb i t.count)

      -- so it executes the same
      executes_same : profile.exec t.font.subrs c ≡ profile.exec f.subrs c
      executes_same = (profile.local f.subrs t.font.subrs c executed_there).1

      -- and lacks none that the font has
      none_lacking : (i : ℕ) → maps.contains_key f.subrs i ≡ true → maps.contains_key t.font.subrs i ≡ false →
          sets.contains (profile.exec t.font.subrs c) i ≡ false
      none_lacking i has lacks = grind (cases, has, lacks, ap (λ s. sets.contains s i) executes_same, executed_there i)

    nobody_executes : (i : ℕ) → maps.contains_key f.subrs i ≡ true → maps.contains_key t.font.subrs i ≡ false → (n : List ℕ) →
        executes profile t.font n i ≡ false
    nobody_executes i has lacks n = by (maps.get t.font.glyphs n) refl
      where
        by : (o : Option (List ℕ)) → maps.get t.font.glyphs n ≡ o → executed_at profile t.font i o ≡ false
        by None is = refl
        by (Some c) is = none_lacking n c is i has lacks

    no_lack : (most : ℕ) (all : List FontValue) → ((i : ℕ) → is_had all i ≡ true → maps.contains_key f.subrs i ≡ true) → (i : ℕ) →
        lack_at all (normal most t.font) i ≡ None
    no_lack most all had i = by (maps.contains_key t.font.subrs i) (is_had all i) refl refl
      where
        by : (a b : Bool) → maps.contains_key t.font.subrs i ≡ a → is_had all i ≡ b →
            cond (not a && b) (told i (user_of (normal most t.font) i)) None ≡ None
        by true b is h = refl
        by false false is h = refl
        by false true is h =
            ap (told i) (none_passes (λ n. executes profile t.font n i) (names_in t.font.glyphs) (nobody_executes i (had i h) is))

  each_no_lack : (most : ℕ) (all : List FontValue) → ((i : ℕ) → is_had all i ≡ true → maps.contains_key f.subrs i ≡ true) → (ts : List Truncated) →
      AllByRecursion (IsNormalCut f) ts → AllByRecursion (λ g. (i : ℕ) → lack_at all g i ≡ None) (map (normal most) (truncated_fonts ts))
  each_no_lack most all had [] w = tt
  each_no_lack most all had (t ∷ ts) w = (no_lack t w.0 most all had, each_no_lack most all had ts w.1)

  -- truncated subsets lack no Subr that one of their glyphs executes and another has
  pub nothing_lacks : IsFont f → (ts : List Truncated) → AllByRecursion (IsNormalCut f) ts → first_lack (normalized_shells (truncated_fonts ts)) ≡ None
  nothing_lacks h ts w =
      let all = map (normal (largest ts)) (truncated_fonts ts) in
      ap first_lack (shells_are f h ts w) ∙ none_among all all (each_no_lack (largest ts) all (λ i l. had_there (largest ts) ts w i l) ts w)

-- ---- fonts with the same indices

module _ (there : ℕ → Bool) where
  -- the fonts have Subrs at these indices alone
  abbrev HaveThese : List FontValue → Type 0
  HaveThese fs = AllByRecursion (λ g. (i : ℕ) → maps.contains_key g.subrs i ≡ there i) fs

  had_is_there : (fs : List FontValue) → HaveThese fs → (i : ℕ) → there i ≡ false → is_had fs i ≡ false
  had_is_there [] h i absent = refl
  had_is_there (f ∷ fs) h i absent = grind (cases, h.0 i, absent, had_is_there fs h.1 i absent)

  same_no_lack : (all : List FontValue) → HaveThese all → (fs : List FontValue) → HaveThese fs → AllByRecursion (λ f. (i : ℕ) → lack_at all f i ≡ None) fs
  same_no_lack all k [] h = tt
  same_no_lack all k (f ∷ fs) h = (λ i. by i (there i) refl, same_no_lack all k fs h.1)
    where
      by : (i : ℕ) (b : Bool) → there i ≡ b → lack_at all f i ≡ None
      by i true is = ap (λ b. cond (not b && is_had all i) (told i (user_of f i)) None) (h.0 i ∙ is)
      by i false is = ap (λ b. cond (not b && is_had all i) (told i (user_of f i)) None) (h.0 i ∙ is)
          ∙ ap (λ b. cond b (told i (user_of f i)) None) (had_is_there all k i is)

  -- fonts with the same indices lack nothing
  pub same_indices_lack_none : (fs : List FontValue) → HaveThese fs → first_lack fs ≡ None
  same_indices_lack_none fs h = none_among fs fs (same_no_lack fs h fs h)

these_indices : (j : FontValue) (n : ℕ) (fs : List FontValue) → AllByRecursion (IsNormalWith j) (map with_normal_texts fs) →
    HaveThese (maps.contains_key j.subrs) (map (normal n) fs)
these_indices j n [] h = tt
these_indices j n (f ∷ fs) h = (h.0.present, these_indices j n fs h.1)

same_boxes : (j : FontValue) (n : ℕ) (fs : List FontValue) → AllByRecursion (IsNormalWith j) (map with_normal_texts fs) →
    AllByRecursion (λ g. box_of g.shell ≡ box_of j.shell) (map (normal n) fs)
same_boxes j n [] h = tt
same_boxes j n (f ∷ fs) h = (h.0.box, same_boxes j n fs h.1)

-- fonts that agree with one of them lack nothing
pub normal_lack_none : (j : FontValue) (fs : List FontValue) → AllByRecursion (IsNormalWith j) (map with_normal_texts fs) →
    first_lack (normalized_shells fs) ≡ None
normal_lack_none j fs h =
    let n = largest_count fs in
    ap first_lack (one_box_stays (box_of j.shell) (each_normal fs) (same_boxes j n fs h))
    ∙ same_indices_lack_none (maps.contains_key j.subrs) (each_normal fs) (these_indices j n fs h)
