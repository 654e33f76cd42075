-- Fonts that lack no Subr draw as before when they get stubs, faults included.
use Rattle.std.proofs.Common.{◌≡◌, ℕ, List, [], ◌∷◌, map, refl, ap, subst, Option, Some, None, option_map}
use Rattle.t1_font.specs.FontValue.{FontValue, SparseArray, CharStrings}
use Rattle.t1_font.specs.{Normalizing.{normal, filled, largest_count, indices_of_all, each_normal, normalized_shells}, FontBoxes.{font_with}}
use Rattle.t1_text.specs.Boxes.{Box, joined_box}
use Rattle.t1_font.proofs.normal_fonts.Boxes.{by_cases}
use Rattle.t1_algebra.specs.{Profile.{profile}, Alike.{DrawsAlike}, Lacks.{user_of, lack_in, lack_among}, Normalized.{EachBeside, AllDrawAlike, UnlackingDraw}}
use Rattle.t1_algebra.proofs.{Drawings.{alike}, Searching.{found_none}, rejoining.FilledStates.{IsAdded, executed_there, runs_same, unlacking_quiet}}
use Rattle.std.specs.FinMap as maps

-- a font that executes none of the indices at which it gets stubs draws as before
filled_alike : (f : FontValue) (indices : List ℕ) → ((i : ℕ) → IsAdded f indices i → user_of f i ≡ None) → AllDrawAlike f (filled indices f)
filled_alike f indices quiet n = alike f (filled indices f) n refl (executed_there f indices quiet n) (λ c p is w. by_glyph p (maps.get f.glyphs p) refl)
  where
    by_glyph : (p : List ℕ) (o : Option (List ℕ)) → maps.get f.glyphs p ≡ o →
        option_map (profile.direct (filled indices f).subrs) o ≡ option_map (profile.direct f.subrs) o
    by_glyph p None is = refl
    by_glyph p (Some c) is = ap Some (runs_same f indices quiet p c is).0

one_unlacking : (fs : List FontValue) (f : FontValue) → lack_in fs f ≡ None → AllDrawAlike f (filled (indices_of_all fs) f)
one_unlacking fs f none = filled_alike f (indices_of_all fs) (unlacking_quiet fs f none)

-- ---- fonts that are normalized

-- fonts with the same Subrs and glyphs
abbrev pub SameEntries : FontValue → FontValue → Type 0
SameEntries f g = (g.subrs ≡ f.subrs) × (g.glyphs ≡ f.glyphs)

-- what draws as in a font draws as in one with the same Subrs and glyphs
as_before : (f g j : FontValue) (n : List ℕ) → SameEntries f g → DrawsAlike g j n → DrawsAlike f j n
as_before f g j n same d = back (subst (λ (x : SparseArray × CharStrings). DrawsAlike (with_entries x) j n) (λ i. (same.0 i, same.1 i)) there)
  where
    with_entries : SparseArray × CharStrings → FontValue
    with_entries x = record { shell = f.shell; encoding = f.encoding; subrs = x.0; glyphs = x.1 }

    there : DrawsAlike (with_entries (g.subrs, g.glyphs)) j n
    there = record { charstring = d.charstring; answer = d.answer; answer3 = d.answer3; executes = d.executes; draws = d.draws; draws3 = d.draws3 }

    back : DrawsAlike (with_entries (f.subrs, f.glyphs)) j n → DrawsAlike f j n
    back e = record { charstring = e.charstring; answer = e.answer; answer3 = e.answer3; executes = e.executes; draws = e.draws; draws3 = e.draws3 }

-- fonts with the Subrs and glyphs of others that lack nothing
pub all_unlacking : (all fs gs : List FontValue) → EachBeside SameEntries fs gs → lack_among all gs ≡ None →
    EachBeside AllDrawAlike fs (map (filled (indices_of_all all)) gs)
all_unlacking all [] [] same none = tt
all_unlacking all [] (g ∷ gs) same none = absurd same
all_unlacking all (f ∷ fs) [] same none = absurd same
all_unlacking all (f ∷ fs) (g ∷ gs) same none =
    let both = found_none (λ l. l) (lack_in all g) (lack_among all gs) none in
    (λ n. as_before f g (filled (indices_of_all all) g) n same.0 (one_unlacking all g both.0 n), all_unlacking all fs gs same.1 both.1)

-- texts, a declared count and a box change neither Subrs nor glyphs
normal_same : (count : ℕ) (fs : List FontValue) → EachBeside SameEntries fs (map (normal count) fs)
normal_same count [] = tt
normal_same count (f ∷ fs) = ((refl, refl), normal_same count fs)

box_same : (u : Box) (count : ℕ) (fs : List FontValue) → EachBeside SameEntries fs (map (font_with u) (map (normal count) fs))
box_same u count [] = tt
box_same u count (f ∷ fs) = ((refl, refl), box_same u count fs)

pub shells_same : (fs : List FontValue) → EachBeside SameEntries fs (normalized_shells fs)
shells_same fs = by_cases (λ gs. EachBeside SameEntries fs gs) (each_normal fs) (λ _. normal_same (largest_count fs) fs)
    (λ bs e t. box_same (joined_box bs) (largest_count fs) fs)

pub unlacking_draw : UnlackingDraw
unlacking_draw = record {
  one = one_unlacking;
  all = λ fs none. all_unlacking (normalized_shells fs) fs (normalized_shells fs) (shells_same fs) none;
}
