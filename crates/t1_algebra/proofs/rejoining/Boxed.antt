-- Truncated subsets that differ in their boxes, too: with one box they are truncated subsets of the font with that box.
use Rattle.std.proofs.{Common.{◌≡◌, ◌≤◌, ℕ, max, true, List, [], ◌∷◌, map, refl, sym, ◌∙◌, ap, subst, Option, Some, None, option_map, arith, IsPermutation}, lemmas.Bool.{and_parts, cond-true}}
use Rattle.std.proofs.lemmas.Option.{none-some, same_Some}
use Rattle.std.specs.{Prelude.{◌&&◌}, List.{list_all}}
use Rattle.t1_font.specs.{FontValue.{FontValue, Shell, SubrsShell, declared_count, count_limit}, IsFont.{IsFont, SubrsFit}, NormalTexts.{normal_texts}}
use Rattle.t1_font.specs.Normalizing.{raised, normal, largest_count, each_normal, normalized_shells, filled_all, normalized}
use Rattle.t1_font.specs.FontBoxes.{Side, box_at, side_in, clear_of, texts_with, with_texts, box_of, font_with, can_have, boxes_of, all_with, boxed_by, boxed}
use Rattle.t1_text.specs.Boxes.{Box, joined_box}
use Rattle.t1_font.proofs.{normal_fonts.Normalized.{normal_is_font}, normal_fonts.NormalTexts.{normal_texts_stay}}
use Rattle.t1_font.proofs.normal_fonts.Boxes.{BoxBytes, all_bytes, joined_bytes, all_fonts, own_font, normal_still, have_it, one_box_stays}
use Rattle.t1_join.specs.Groupings.{leaves}
use Rattle.t1_algebra.specs.{Interpreter.{Names}, Keep.{keep, subset}, Profile.{profile}, Lacks.{first_lack}, Merges.{MergesTo}, Alike.{DrawsAlike}, Groupings.{union_all}}
use Rattle.t1_algebra.specs.Rejoins.{declares, cut_to, with_normal_texts, SameButBox, Truncated, IsTruncated, truncated_fonts}
use Rattle.t1_algebra.specs.Rejoins.{truncated_sets, names_of_all, largest, GetBox, shared_font, rejoined, Rejoins}
use Rattle.t1_algebra.specs.Rejoins.{TruncatedSubsetsRejoin}
use Rattle.t1_algebra.proofs.{Words.{AllByRecursion}, rejoining.NormalCuts.{IsNormalCut, normal_shared, normal_rejoined, NormalCutsRejoin}, rejoining.Rejoined.{rejoins}}
use Rattle.std.specs.FinSet as sets

-- ---- the font's own box

-- a font without a box stays
no_box_font : (u : Box) (f : FontValue) → box_of f.shell ≡ None → font_with u f ≡ f
no_box_font u f e = by_side (side_in (clear_of f.shell)) refl e
  where
    by_side : (o : Option Side) → side_in (clear_of f.shell) ≡ o → option_map box_at o ≡ None → font_with u f ≡ f
    by_side None k h = ap (λ (o : Option Side). with_texts f (texts_with u (clear_of f.shell) o)) k
    by_side (Some s) k h = absurd (none-some (box_at s) (sym h))

-- fonts of one box that are the same but for the box are the same
same_with_box : (o : Option Box) (f g : FontValue) → box_of f.shell ≡ o → box_of g.shell ≡ o → SameButBox f g → f ≡ g
same_with_box None f g e k same = sym (no_box_font any f e) ∙ (same any ∙ no_box_font any g k)
  where
    any : Box
    any = record { llx = []; lly = []; urx = []; ury = [] }
same_with_box (Some b) f g e k same = sym (own_font f b e) ∙ (same b ∙ own_font g b k)

own_cut : (f : FontValue) (t : Truncated) → IsTruncated f t → box_of (normal_texts t.font.shell) ≡ box_of (normal_texts f.shell) → IsNormalCut f t
own_cut f t w e = record {
  font = w.font;
  names = w.names;
  same = same_with_box (box_of (normal_texts f.shell)) (with_normal_texts t.font) (with_normal_texts (cut_to t.count (subset profile f t.names))) e refl w.same;
  kept = w.kept;
  count = w.count;
}

own_cuts : (f : FontValue) (ts : List Truncated) → AllByRecursion (IsTruncated f) ts → GetBox f ts None → AllByRecursion (IsNormalCut f) ts
own_cuts f [] w b = tt
own_cuts f (t ∷ ts) w b = (own_cut f t w.0 b.0, own_cuts f ts w.1 b.1)

-- ---- the one box

-- a font that raises its count by none stays
normal_zero : (f : FontValue) → normal 0 f ≡ with_normal_texts f
normal_zero f = λ i. record (with_normal_texts f) { shell = record (normal_texts f.shell) { subrs = none_raised f.shell.subrs i } }
  where
    none_raised : (s : Option SubrsShell) → option_map (raised 0) s ≡ s
    none_raised None = refl
    none_raised (Some s) = λ i. Some (record { declared = same s.declared i; rd = s.rd; put = s.put; closing = s.closing })
      where
        same : (n : ℕ) → max 0 n ≡ n
        same n = omega arith

-- a font with normalized texts is a font
normal_font : (f : FontValue) → IsFont f → IsFont (with_normal_texts f)
normal_font f h = subst IsFont (normal_zero f) (normal_is_font 0 f (omega arith) h)

few_declared : (s : Shell) (o : Option SubrsShell) (f : FontValue) → SubrsFit s o f.subrs → declared_count o ≤ count_limit
few_declared s None f h = omega arith
few_declared s (Some k) f h = h.declared

cuts_few : (f : FontValue) (ts : List Truncated) → AllByRecursion (IsTruncated f) ts → largest_count (truncated_fonts ts) ≤ count_limit
cuts_few f [] w = omega arith
cuts_few f (t ∷ ts) w = omega (arith, few_declared t.font.shell t.font.shell.subrs t.font w.0.font.subrs, cuts_few f ts w.1)

cuts_normal : (f : FontValue) (n : ℕ) (ts : List Truncated) → n ≤ count_limit → AllByRecursion (IsTruncated f) ts →
    AllByRecursion IsFont (map (normal n) (truncated_fonts ts))
cuts_normal f n [] le w = tt
cuts_normal f n (t ∷ ts) le w = (normal_is_font n t.font le w.0.font, cuts_normal f n ts le w.1)

module _ (f : FontValue) (h : IsFont f) (ts : List Truncated) (w : AllByRecursion (IsTruncated f) ts) (u : Box) (get : GetBox f ts (Some u)) where
  -- the fonts with normalized texts
  abbrev each : List FontValue
  each = each_normal (truncated_fonts ts)

  can_both : (can_have u (with_normal_texts f) ≡ true) × (list_all (can_have u) each ≡ true)
  can_both = and_parts (can_have u (with_normal_texts f)) (list_all (can_have u) each) get.1

  bytes : BoxBytes u
  bytes = by_boxes (boxes_of each) refl get.0
    where
      by_boxes : (o : Option (List Box)) → boxes_of each ≡ o → option_map joined_box o ≡ Some u → BoxBytes u
      by_boxes None e k = absurd (none-some u k)
      by_boxes (Some bs) e k =
          subst BoxBytes (same_Some (joined_box bs) u k)
          (joined_bytes bs (all_bytes each bs e (cuts_normal f (largest_count (truncated_fonts ts)) ts (cuts_few f ts w) w)))

  -- the font with that box
  abbrev with_it : FontValue → FontValue
  with_it g = font_with u (with_normal_texts g)

  abbrev boxed_font : FontValue
  boxed_font = with_it f

  boxed_is : IsFont boxed_font
  boxed_is = (all_fonts u bytes (with_normal_texts f ∷ []) (ap (λ b. b && true) can_both.0) (normal_font f h, tt)).0

  -- a font with normalized texts that has the box has normalized texts
  stays_normal : (g : FontValue) → can_have u (with_normal_texts g) ≡ true → normal_texts (with_it g).shell ≡ (with_it g).shell
  stays_normal g can = normal_still u (with_normal_texts g) can (normal_texts_stay g.shell)

  -- ---- one of the subsets

  abbrev boxed_cut : Truncated → Truncated
  boxed_cut t = record { font = with_it t.font; names = t.names; count = t.count }

  module _ (t : Truncated) (k : IsTruncated f t) (can : can_have u (with_normal_texts t.font) ≡ true) where
    cut_same : with_normal_texts (with_it t.font) ≡ with_normal_texts (cut_to t.count (subset profile boxed_font t.names))
    cut_same =
        (λ i. record (with_it t.font) { shell = stays_normal t.font can i })
        ∙ (k.same u
        ∙ (λ i. record (with_it (cut_to t.count (subset profile f t.names)))
        { shell = record (sym (stays_normal f can_both.0) i) { subrs = option_map (declares t.count) f.shell.subrs } }))

    boxed_is_cut : IsNormalCut boxed_font (boxed_cut t)
    boxed_is_cut = record {
      font = (all_fonts u bytes (with_normal_texts t.font ∷ []) (ap (λ b. b && true) can) (normal_font t.font k.font, tt)).0;
      names = k.names;
      same = cut_same;
      kept = k.kept;
      count = k.count;
    }

  -- ---- all of them

  boxed_are_cuts : (n : ℕ) (us : List Truncated) → AllByRecursion (IsTruncated f) us → list_all (can_have u) (map (normal n) (truncated_fonts us)) ≡ true →
      AllByRecursion (IsNormalCut boxed_font) (map boxed_cut us)
  boxed_are_cuts n [] k can = tt
  boxed_are_cuts n (t ∷ us) k can =
      let both = and_parts (can_have u (with_normal_texts t.font)) (list_all (can_have u) (map (normal n) (truncated_fonts us))) can in
      (boxed_is_cut t k.0 both.0, boxed_are_cuts n us k.1 both.1)

  same_sets : (us : List Truncated) → truncated_sets (map boxed_cut us) ≡ truncated_sets us
  same_sets [] = refl
  same_sets (t ∷ us) = ap (λ (s : List Names). t.names ∷ s) (same_sets us)

  same_largest : (us : List Truncated) → largest (map boxed_cut us) ≡ largest us
  same_largest [] = refl
  same_largest (t ∷ us) = ap (max t.count) (same_largest us)

  same_count : (us : List Truncated) → largest_count (truncated_fonts (map boxed_cut us)) ≡ largest_count (truncated_fonts us)
  same_count [] = refl
  same_count (t ∷ us) = ap (max (declared_count t.font.shell.subrs)) (same_count us)

  -- normalized, each has the box that it has
  normal_boxed : (n : ℕ) (us : List Truncated) → list_all (can_have u) (map (normal n) (truncated_fonts us)) ≡ true →
      map (normal n) (truncated_fonts (map boxed_cut us)) ≡ map (font_with u) (map (normal n) (truncated_fonts us))
  normal_boxed n [] can = refl
  normal_boxed n (t ∷ us) can =
      let both = and_parts (can_have u (with_normal_texts t.font)) (list_all (can_have u) (map (normal n) (truncated_fonts us))) can in
      λ i. record (with_it t.font) { shell = record (stays_normal t.font both.0 i) { subrs = option_map (raised n) t.font.shell.subrs } }
      ∷ normal_boxed n us both.1 i

  abbrev boxed_cuts : List Truncated
  boxed_cuts = map boxed_cut ts

  -- they are normalized as the subsets are
  same_shells : normalized_shells (truncated_fonts boxed_cuts) ≡ normalized_shells (truncated_fonts ts)
  same_shells =
      ap boxed (ap (λ (n : ℕ). map (normal n) (truncated_fonts boxed_cuts)) (same_count ts) ∙ normal_boxed (largest_count (truncated_fonts ts)) ts can_both.1)
      ∙ (one_box_stays (Some u) (map (font_with u) each) (have_it u each can_both.1)
      ∙ by_boxes (boxes_of each) refl get.0)
    where
      by_boxes : (o : Option (List Box)) → boxes_of each ≡ o → option_map joined_box o ≡ Some u → map (font_with u) each ≡ boxed each
      by_boxes None e k = absurd (none-some u k)
      by_boxes (Some bs) e k =
          sym (ap (boxed_by each) e
          ∙ (ap (λ (v : Box). all_with v each) (same_Some (joined_box bs) u k)
          ∙ cond-true (list_all (can_have u) each) (map (font_with u) each) each can_both.1))

  normal_same : normalized (truncated_fonts boxed_cuts) ≡ normalized (truncated_fonts ts)
  normal_same = ap filled_all same_shells

  -- the font that they share is the one with the box, and so is what they rejoin to
  shared_same : normal_shared boxed_font boxed_cuts ≡ shared_font f ts (Some u)
  shared_same = ap (λ (n : ℕ). cut_to n (with_normal_texts boxed_font)) (same_largest ts)
      ∙ (λ i. record (font_with u (cut_to (largest ts) (with_normal_texts f)))
      { shell = record (stays_normal f can_both.0 i) { subrs = option_map (declares (largest ts)) f.shell.subrs } })

  rejoined_same : normal_rejoined boxed_font boxed_cuts ≡ rejoined f ts (Some u)
  rejoined_same =
      (λ i. cut_to (same_largest ts i) (with_normal_texts (subset profile boxed_font (union_all (same_sets ts i)))))
      ∙ (λ i. record (font_with u (cut_to (largest ts) (with_normal_texts (subset profile f (names_of_all ts)))))
      { shell = record (stays_normal f can_both.0 i) { subrs = option_map (declares (largest ts)) f.shell.subrs } })

  -- what draws as in the font with the box draws as in the font
  draws_as : (j : FontValue) (n : List ℕ) → DrawsAlike boxed_font j n → DrawsAlike f j n
  draws_as j n d = record {
    charstring = d.charstring;
    answer = d.answer;
    answer3 = d.answer3;
    executes = d.executes;
    draws = d.draws;
    draws3 = d.draws3;
  }

  rejoins_boxed : NormalCutsRejoin boxed_font boxed_cuts → Rejoins f ts (Some u)
  rejoins_boxed r = record {
    shared = subst IsFont shared_same r.shared;
    lacks = ap first_lack (sym same_shells) ∙ r.lacks;
    subsets = sym normal_same ∙ (r.subsets ∙ (λ i. map (subset profile (shared_same i)) (same_sets ts i)));
    merges = λ g p. subst (λ (j : FontValue). MergesTo g j) rejoined_same
        (r.merges g (subst (λ (fs : List FontValue). IsPermutation fs (leaves g)) (sym normal_same) p));
    draws = λ n k. subst (λ (j : FontValue). DrawsAlike f j n) rejoined_same
        (draws_as (normal_rejoined boxed_font boxed_cuts) n
        (r.draws n (ap (λ (s : List Names). sets.contains (keep profile f (union_all s)) n) (same_sets ts) ∙ k)));
  }

-- ---- truncated subsets rejoin

rejoins_own : (f : FontValue) (ts : List Truncated) → NormalCutsRejoin f ts → Rejoins f ts None
rejoins_own f ts r = record { shared = r.shared; lacks = r.lacks; subsets = r.subsets; merges = r.merges; draws = r.draws }

pub truncated_subsets_rejoin : TruncatedSubsetsRejoin
truncated_subsets_rejoin f h t ts w None get = rejoins_own f (t ∷ ts) (rejoins f h t ts (own_cuts f (t ∷ ts) w get))
truncated_subsets_rejoin f h t ts w (Some u) get =
    let all = t ∷ ts in
    rejoins_boxed f h all w u get (rejoins (boxed_font f h all w u get) (boxed_is f h all w u get) (boxed_cut f h all w u get t)
    (map (boxed_cut f h all w u get) ts)
    (boxed_are_cuts f h all w u get (largest_count (truncated_fonts all)) all w (can_both f h all w u get).1))
