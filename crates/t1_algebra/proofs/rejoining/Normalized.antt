-- Fonts that are normalized have all the Subrs that they had, so their glyphs stay drawn; of fonts that merge only the texts are normalized.
use Rattle.std.proofs.{Common.{◌≡◌, ◌<◌, ℕ, arith, max, sym, List, [], ◌∷◌, map, refl, ◌∙◌, ap, Option, option_map}, lemmas.Bool.{ltb-true, lt-ltb}}
use Rattle.t1_run.{specs.{Run.{Subrs}, Growth.{Extends}}, proofs.Grown.{runs_with_more, draws_with_more}}
use Rattle.t1_join.{specs.Groupings.{Grouping, one, two, leaves, map_grouping}, proofs.OrderLemmas.{all_leaves}}
use Rattle.t1_font.specs.{FontValue.{FontValue, SubrsShell, SparseArray, declared_count, Shell}, FontModel.{subr_at}, NormalTexts.{normal_texts}, NormalizingLaws.{IsNormalWith}}
use Rattle.t1_font.specs.Normalizing.{raised, normal, stubs_at, with_stubs, filled, largest_count, indices_of_all, each_normal, normalized_shells, filled_all, normalized}
use Rattle.t1_font.specs.FontBoxes.{box_of, font_with, boxed}
use Rattle.t1_text.specs.Boxes.{Box, joined_box}
use Rattle.t1_font.proofs.{normal_fonts.NormalStays.{normal_fonts_stay}, normal_fonts.Boxes.{by_cases}, normal_fonts.NormalTexts.{normal_texts_stay, normal_shorter}}
use Rattle.t1_algebra.specs.{Normalized.{StaysDrawn, map_subrs, AllStayDrawn, EachBeside, NormalizedDraw}, Rejoins.{with_normal_texts, MergingFontsAreNormal}}
use Rattle.t1_algebra.specs.{States.{Compatible, KeepsLimits, joined_option, joined_font}, Groupings.{Merges}, Profile.{profile}}
use Rattle.t1_algebra.proofs.{rejoining.Lacking.{normal_lack_none}, Words.{AllByRecursion, nat_cmp_total, nat_cmp-IsAntisymmetric}, Maps.{get-merged}, Orders.{Below, above}, Shares.{sharing}}
use Rattle.t1_algebra.proofs.Sets.{cases}
use Rattle.std.specs.FinMap as maps

-- if a font has the same glyphs and more Subrs, each glyph stays drawn
stays_drawn : (subrs : FontValue → Subrs) (f j : FontValue) → Extends (subrs f) (subrs j) → j.glyphs ≡ f.glyphs → (n : List ℕ) → StaysDrawn subrs f j n
stays_drawn subrs f j more same n =
    let glyphs : Extends (maps.get f.glyphs) (maps.get j.glyphs) = λ k c is. ap (λ (m : _). maps.get m k) same ∙ is in
    record {
      charstring = ap (λ (m : _). maps.get m n) same;
      answer = λ c is h. runs_with_more.answers (subrs f) (subrs j) c _ more h;
      answer3 = λ c is h. runs_with_more.answers (subrs f) (subrs j) c _ more h;
      executes = λ c is h k. runs_with_more.executes (subrs f) (subrs j) c more h k;
      draws = λ h. draws_with_more.draws (subrs f) (subrs j) (maps.get f.glyphs) (maps.get j.glyphs) n more glyphs h;
      draws3 = λ h. draws_with_more.draws3 (subrs f) (subrs j) (maps.get f.glyphs) (maps.get j.glyphs) n more glyphs h;
    }

-- stubs take the place of no entry
stubs_added : (indices : List ℕ) (m : SparseArray) (es : List (ℕ × List ℕ)) → Extends (maps.get m) (maps.get (with_stubs indices m es))
stubs_added indices m [] i c is = is
stubs_added indices m (e ∷ es) i c is =
    get-merged nat_cmp_total nat_cmp-IsAntisymmetric m (stubs_at indices) i ∙ ap (λ x. joined_option x (maps.get (stubs_at indices) i)) is

-- a raised count declares no fewer Subrs
no_fewer : (i count : ℕ) (s : Option SubrsShell) → i < declared_count s → i < declared_count (option_map (raised count) s)
no_fewer i count s h = grind cases

-- a font that has the Subrs and glyphs of another, and declares no fewer Subrs
record Keeps (f e : FontValue) : Type 0 where
  subrs : e.subrs ≡ f.subrs
  glyphs : e.glyphs ≡ f.glyphs
  count : (i : ℕ) → i < declared_count f.shell.subrs → i < declared_count e.shell.subrs

module _ (indices : List ℕ) (f e : FontValue) (k : Keeps f e) where
  -- that font, filled
  abbrev made : FontValue
  made = filled indices e

  -- it has all the Subrs that the font had
  subrs_added : Extends (maps.get f.subrs) (maps.get made.subrs)
  subrs_added i c is = stubs_added _ e.subrs (maps.entries e.subrs) i c (ap (λ (m : SparseArray). maps.get m i) k.subrs ∙ is)

  -- it shows all the Subrs that the font showed
  seen_added : Extends (subr_at f) (subr_at made)
  seen_added i c is =
      grind (cases, is, subrs_added i c, k.count i, ltb-true i (declared_count f.shell.subrs), lt-ltb i (declared_count made.shell.subrs))

  -- each glyph stays drawn in it
  all_stay_drawn : AllStayDrawn f made
  all_stay_drawn n = (stays_drawn map_subrs f made subrs_added k.glyphs n, stays_drawn subr_at f made seen_added k.glyphs n)

-- a font that is normalized, and that with another box
normal_keeps : (count : ℕ) (f : FontValue) → Keeps f (normal count f)
normal_keeps count f = record { subrs = refl; glyphs = refl; count = λ i. no_fewer i count f.shell.subrs }

box_keeps : (u : Box) (count : ℕ) (f : FontValue) → Keeps f (font_with u (normal count f))
box_keeps u count f = record { subrs = refl; glyphs = refl; count = λ i. no_fewer i count f.shell.subrs }

-- each glyph of fonts stays drawn in the fonts that are normalized
beside : (indices : List ℕ) (count : ℕ) (fs : List FontValue) → EachBeside AllStayDrawn fs (map (filled indices) (map (normal count) fs))
beside indices count [] = tt
beside indices count (f ∷ fs) = (all_stay_drawn indices f (normal count f) (normal_keeps count f), beside indices count fs)

-- and in these with another box
beside_box : (u : Box) (indices : List ℕ) (count : ℕ) (fs : List FontValue) →
    EachBeside AllStayDrawn fs (map (filled indices) (map (font_with u) (map (normal count) fs)))
beside_box u indices count [] = tt
beside_box u indices count (f ∷ fs) = (all_stay_drawn indices f (font_with u (normal count f)) (box_keeps u count f), beside_box u indices count fs)

pub normalized_draw : NormalizedDraw
normalized_draw = record {
  one = λ indices count f. all_stay_drawn indices f (normal count f) (normal_keeps count f);
  all = λ fs.
      let indices = indices_of_all (normalized_shells fs) in
      by_cases (λ gs. EachBeside AllStayDrawn fs (map (filled indices) gs)) (each_normal fs) (λ _. beside indices (largest_count fs) fs)
      (λ bs e t. beside_box (joined_box bs) indices (largest_count fs) fs);
}

-- ---- fonts that merge

-- a font with normalized texts keeps the limits that it kept
normal_within : (f : FontValue) → KeepsLimits f → KeepsLimits (with_normal_texts f)
normal_within f w = record { weight = omega (arith, normal_shorter f.shell, w.weight); glyphs = w.glyphs }

-- the states are the same, and the shells stay equal
normal_agree : (f g : FontValue) → Compatible profile f g → Compatible profile (with_normal_texts f) (with_normal_texts g)
normal_agree f g c = record { shells = ap normal_texts c.shells; present = c.present; kinds = c.kinds; subrs = c.subrs; names = c.names; codes = c.codes }

-- so fonts merge with normalized texts in each order and grouping in which they merge
normal_groupings : (t : Grouping FontValue) (j : FontValue) → Merges profile t j → Merges profile (map_grouping with_normal_texts t) (with_normal_texts j)
normal_groupings (one f) j is = ap with_normal_texts is
normal_groupings (two s t) j (p, q, left, right, joins) = (
  with_normal_texts p,
  with_normal_texts q,
  normal_groupings s p left,
  normal_groupings t q right,
  (record { states = normal_agree p q joins.0.states; within = normal_within (joined_font profile p q) joins.0.within }, ap with_normal_texts joins.1),
)

-- a font is normalized as it is with normalized texts
texts_first : (n : ℕ) (fs : List FontValue) → map (normal n) (map with_normal_texts fs) ≡ map (normal n) fs
texts_first n [] = refl
texts_first n (f ∷ fs) = λ i. record {
  shell = record (normal_texts_stay f.shell i) { subrs = option_map (raised n) f.shell.subrs };
  encoding = f.encoding;
  subrs = f.subrs;
  glyphs = f.glyphs;
} ∷ texts_first n fs i

counts_same : (fs : List FontValue) → largest_count (map with_normal_texts fs) ≡ largest_count fs
counts_same [] = refl
counts_same (f ∷ fs) = ap (max (declared_count f.shell.subrs)) (counts_same fs)

-- fonts are normalized as they are with normalized texts
normalized_texts : (fs : List FontValue) → normalized (map with_normal_texts fs) ≡ normalized fs
normalized_texts fs =
    ap (λ (gs : List FontValue). filled_all (boxed gs))
    (ap (λ (n : ℕ). map (normal n) (map with_normal_texts fs)) (counts_same fs) ∙ texts_first (largest_count fs) fs)

-- fonts whose states are among those of one font agree with it, both with normalized texts
normal_with : (j : FontValue) (fs : List FontValue) → AllByRecursion (Below profile j) fs →
    AllByRecursion (IsNormalWith (with_normal_texts j)) (map with_normal_texts fs)
normal_with j [] b = tt
normal_with j (f ∷ fs) b =
    let shared = (sharing f j).1 b.0.0.0.0 in (
      record {
        texts = normal_texts_stay f.shell;
        box = ap (λ (s : Shell). box_of (normal_texts s)) shared.shells;
        count = ap (λ (s : Shell). declared_count s.subrs) shared.shells;
        present = shared.present;
      },
      normal_with j fs b.1,
    )

pub merging_fonts_are_normal : MergingFontsAreNormal
merging_fonts_are_normal t j h =
    let below = all_leaves (Below profile j) t (above profile t j h) in
    let normal = normal_with j (leaves t) below in (
      normal_lack_none (with_normal_texts j) (leaves t) normal,
      sym (normalized_texts (leaves t)) ∙ normal_fonts_stay (with_normal_texts j) (map with_normal_texts (leaves t)) normal,
      normal_groupings t j h,
    )
