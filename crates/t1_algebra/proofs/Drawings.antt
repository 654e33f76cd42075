-- A glyph runs and draws in a subset and in a join as it did before.
use Rattle.std.proofs.Common.{◌≡◌, ℕ, true, cond, List, [], ◌∷◌, map, refl, sym, ◌∙◌, ap, subst, Option, Some, None, option_map}
use Rattle.t1_run.{specs.{State.{Ending}, Run.{direct, direct3, exec, direct_by}, Drawings.{parts_of, picture, picture_at, draw, draw3, outcome_at, draw_by, parts_by, parts}}, proofs.Locality.{local}}
use Rattle.t1_font.{specs.{FontValue.{FontValue, SparseArray}, IsFont.{IsFont}}, proofs.FontReaders.{all_seen}}
use Rattle.t1_algebra.specs.{Keep.{keep, has, components, subset, IsOf}, Outcomes.{component_outcome}, States.{joined_font, Compatible}, Profile.{profile, Endings, in_set_of}, Laws.{AnswersAlike}}
use Rattle.t1_algebra.specs.Alike.{DrawsAlike}
use Rattle.t1_algebra.proofs.{Words.{list_any, nat_list_cmp_total, Names, same_bytes}, Kept.{keep_part}, Sets.{name_same, itself, here, later, any_append_left, any_append_right, cases}, Uses.{sought}}
use Rattle.t1_algebra.proofs.{JoinedStates.{left_runs, left_subrs, font_back, compatible_back}, Subsets.{get-glyph, runs_alike, subrs_alike, glyph_in_join}}
use Rattle.std.specs.FinSet as sets
use Rattle.std.specs.FinMap as maps

-- ---- fonts in which a glyph runs alike and names components that run alike

-- a charstring runs the same over two tables of Subrs that agree at what it executes
pub runs_by_rules : (s t : SparseArray) (c : List ℕ) → ((i : ℕ) → sets.contains (profile.exec s c) i ≡ true → maps.get t i ≡ maps.get s i)
    → (direct (maps.get t) c ≡ direct (maps.get s) c) × (direct3 (maps.get t) c ≡ direct3 (maps.get s) c) × (exec (maps.get t) c ≡ exec (maps.get s) c)
unfolding profile
runs_by_rules s t c h = local (maps.get s) (maps.get t) c (λ i k. sym (h i (in_set_of (exec (maps.get s) c) i k)))

-- what this project's interpreter comes to and names: the endings by both answers to hint replacement, and the parts of both
ending : (s : SparseArray) (c : List ℕ) → (profile.direct s c ≡ (direct (maps.get s) c, direct3 (maps.get s) c)) ×
    (components profile s c ≡ parts (maps.get s) c)
unfolding profile
ending s c = (refl, refl)

-- functions that agree on a list map it to the same
map_alike : {X : Type 0} (f g : List ℕ → X) (ps : List (List ℕ)) → ((p : List ℕ) → list_any (same_bytes p) ps ≡ true → f p ≡ g p) → map f ps ≡ map g ps
map_alike f g [] h = refl
map_alike f g (p ∷ ps) h =
    λ i. h p (here (same_bytes p) p ps (itself nat_list_cmp_total name_same p)) i ∷ map_alike f g ps (λ q w. h q (later (same_bytes q) p ps w)) i

module _ (f j : FontValue) (n : List ℕ) (same : maps.get j.glyphs n ≡ maps.get f.glyphs n)
    (runs : (c : List ℕ) → maps.get f.glyphs n ≡ Some c → (i : ℕ) → sets.contains (profile.exec f.subrs c) i ≡ true → maps.get j.subrs i ≡ maps.get f.subrs i)
    (same_parts : (c p : List ℕ) → maps.get f.glyphs n ≡ Some c → list_any (same_bytes p) (components profile f.subrs c) ≡ true →
    component_outcome profile j p ≡ component_outcome profile f p) where
  -- `by` gives what a charstring comes to by one answer to hint replacement
  module _ (hints : _) (by : Endings → Ending) (is_by : (s : SparseArray) (c : List ℕ) → by (profile.direct s c) ≡ direct_by hints (maps.get s) c)
      (named : (s : SparseArray) (c p : List ℕ) → list_any (same_bytes p) (parts_by hints (maps.get s) c) ≡ true →
      list_any (same_bytes p) (components profile s c) ≡ true) where
    -- the picture of what the glyph's charstring comes to is alike
    picture_alike : (x : Option (List ℕ)) → maps.get f.glyphs n ≡ x
        → picture_at hints (maps.get j.subrs) (maps.get j.glyphs) (option_map (direct_by hints (maps.get j.subrs)) x)
        ≡ picture_at hints (maps.get f.subrs) (maps.get f.glyphs) (option_map (direct_by hints (maps.get f.subrs)) x)
    picture_alike None is = refl
    picture_alike (Some c) is =
        ap (λ own. picture own (map (outcome_at hints (maps.get j.subrs) (maps.get j.glyphs)) (parts_of own)))
        (sym (is_by j.subrs c) ∙ ap by (profile.local f.subrs j.subrs c (runs c is)).0 ∙ is_by f.subrs c)
        ∙ ap (picture (direct_by hints (maps.get f.subrs) c))
        (map_alike _ _ (parts_by hints (maps.get f.subrs) c) (λ p w. grind (cases, same_parts c p is (named f.subrs c p w), is_by f.subrs, is_by j.subrs)))

    draws_alike : draw_by hints (maps.get j.subrs) (maps.get j.glyphs) n ≡ draw_by hints (maps.get f.subrs) (maps.get f.glyphs) n
    draws_alike = ap (λ x. picture_at hints (maps.get j.subrs) (maps.get j.glyphs) (option_map (direct_by hints (maps.get j.subrs)) x)) same
        ∙ picture_alike (maps.get f.glyphs n) refl

  -- the glyph draws alike in both
  pub alike : DrawsAlike f j n
  alike = record {
    charstring = same;
    answer = λ c is. (runs_by_rules f.subrs j.subrs c (runs c is)).0;
    answer3 = λ c is. (runs_by_rules f.subrs j.subrs c (runs c is)).1;
    executes = λ c is. (runs_by_rules f.subrs j.subrs c (runs c is)).2;
    draws = draws_alike _ (λ e. e.0) (λ s c. ap (λ e. e.0) (ending s c).0) (λ s c p w.
        ap (list_any (same_bytes p)) (ending s c).1 ∙ any_append_left (same_bytes p) (parts_of (direct (maps.get s) c)) (parts_of (direct3 (maps.get s) c)) w);
    draws3 = draws_alike _ (λ e. e.1) (λ s c. ap (λ e. e.1) (ending s c).0) (λ s c p w.
        ap (list_any (same_bytes p)) (ending s c).1 ∙ any_append_right (same_bytes p) (parts_of (direct (maps.get s) c)) (parts_of (direct3 (maps.get s) c)) w);
  }

-- ---- subsets and joins

-- a kept glyph draws in a subset as in the font
pub subset_alike : (f : FontValue) → IsFont f → (a : Names) → IsOf f a → (n : List ℕ) → sets.contains (keep profile f a) n ≡ true →
    DrawsAlike f (subset profile f a) n
subset_alike f h a inside n k = alike f (subset profile f a) n (get-glyph profile f a n ∙ ap (λ b. cond b (maps.get f.glyphs n) None) k)
    (λ c is. subrs_alike profile f a n c k is) (λ c p is w.
    grind (cases, get-glyph profile f a p, keep_part profile f a h.glyphs.notdef inside n c p k is w, runs_alike profile f a p))

-- a glyph of the first font draws in the join as it did
pub left_alike : (f g : FontValue) → Compatible profile f g → (n : List ℕ) → has f n ≡ true → DrawsAlike f (joined_font profile f g) n
left_alike f g c n h = alike f (joined_font profile f g) n (grind (cases, glyph_in_join profile f g n, h)) (left_subrs profile f g n)
    (λ v p is w. grind (cases, glyph_in_join profile f g p, c.names p, sought profile f p n, is, w, left_runs profile f g p))

-- so does a glyph of the second font
pub right_alike : (f g : FontValue) → Compatible profile f g → (n : List ℕ) → has g n ≡ true → DrawsAlike g (joined_font profile f g) n
right_alike f g c n h = subst (λ (j : FontValue). DrawsAlike g j n) (sym (font_back profile f g c)) (left_alike g f (compatible_back profile f g c) n h)

-- fonts show their maps to an interpreter, so calls answer alike of glyphs that draw alike
pub answers_alike : (f j : FontValue) → IsFont f → IsFont j → (n : List ℕ) → DrawsAlike f j n → AnswersAlike f j n
answers_alike f j hf hj n d = record {
  charstring = d.charstring;
  answer = λ c is. ap (λ s. direct s c) (all_seen j hj) ∙ d.answer c is ∙ ap (λ s. direct s c) (sym (all_seen f hf));
  answer3 = λ c is. ap (λ s. direct3 s c) (all_seen j hj) ∙ d.answer3 c is ∙ ap (λ s. direct3 s c) (sym (all_seen f hf));
  executes = λ c is. ap (λ s. exec s c) (all_seen j hj) ∙ d.executes c is ∙ ap (λ s. exec s c) (sym (all_seen f hf));
  draws = ap (λ s. draw s (maps.get j.glyphs) n) (all_seen j hj) ∙ d.draws ∙ ap (λ s. draw s (maps.get f.glyphs) n) (sym (all_seen f hf));
  draws3 = ap (λ s. draw3 s (maps.get j.glyphs) n) (all_seen j hj) ∙ d.draws3 ∙ ap (λ s. draw3 s (maps.get f.glyphs) n) (sym (all_seen f hf));
}
