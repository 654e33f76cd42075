-- The kept texts of fonts that are normalized, and of what they come to.
use Rattle.std.proofs.Common.{◌≡◌, ℕ, List, [], ◌∷◌, map, inl, refl, subst}
use Rattle.t1_join.{specs.Groupings.{one, from_left}, proofs.OrderLemmas.{all_leaves, leaves_from_left}}
use Rattle.t1_font.specs.{FontValue.{FontValue}, NormalTexts.{normal_texts}, Normalizing.{normal, filled, largest_count, indices_of_all, each_normal, normalized_shells}}
use Rattle.t1_font.specs.{FontBoxes.{font_with, clear_of, side_in}, Renewing.{Renewed}}
use Rattle.t1_text.specs.Boxes.{Box, joined_box}
use Rattle.t1_font.proofs.normal_fonts.{Boxes.{by_cases}, Renewed.{texts_renewed, box_texts}}
use Rattle.t1_algebra.specs.{Profile.{profile}, Normalized.{EachBeside, NormalizedRenewed, ShellsStay}}
use Rattle.t1_algebra.proofs.{Words.{AllByRecursion}, Orders.{Below, above}, Shares.{sharing}}

-- ---- fonts that are normalized

-- a font with normalized texts that declares more Subrs
pub count_renews : (count : ℕ) (f : FontValue) → Renewed f.shell (normal count f).shell
count_renews count f = record {
  between = normal_texts f.shell;
  texts = texts_renewed f.shell;
  box = record {
    head = inl refl;
    clear_tail = inl refl;
    private = refl;
    middle = refl;
    tail = refl;
    len_iv = refl;
    count = count;
    subrs = refl;
    glyphs_rd = refl;
    glyphs_def = refl;
  };
}

-- and one that has another box, too
pub box_renews : (u : Box) (count : ℕ) (f : FontValue) → Renewed f.shell (font_with u (normal count f)).shell
box_renews u count f =
    let x = clear_of (normal_texts f.shell) in
    let both = box_texts u x (side_in x) refl in
    record {
      between = normal_texts f.shell;
      texts = texts_renewed f.shell;
      box = record {
        head = both.0;
        clear_tail = both.1;
        private = refl;
        middle = refl;
        tail = refl;
        len_iv = refl;
        count = count;
        subrs = refl;
        glyphs_rd = refl;
        glyphs_def = refl;
      };
    }

-- those of a font stay when it gets stubs
counts_beside : (indices : List ℕ) (count : ℕ) (fs : List FontValue) →
    EachBeside (λ f g. Renewed f.shell g.shell) fs (map (filled indices) (map (normal count) fs))
counts_beside indices count [] = tt
counts_beside indices count (f ∷ fs) = (count_renews count f, counts_beside indices count fs)

boxes_beside : (u : Box) (indices : List ℕ) (count : ℕ) (fs : List FontValue) →
    EachBeside (λ f g. Renewed f.shell g.shell) fs (map (filled indices) (map (font_with u) (map (normal count) fs)))
boxes_beside u indices count [] = tt
boxes_beside u indices count (f ∷ fs) = (box_renews u count f, boxes_beside u indices count fs)

pub normalized_renewed : NormalizedRenewed
normalized_renewed fs =
    let indices = indices_of_all (normalized_shells fs) in
    by_cases (λ gs. EachBeside (λ f g. Renewed f.shell g.shell) fs (map (filled indices) gs)) (each_normal fs)
    (λ _. counts_beside indices (largest_count fs) fs) (λ bs e t. boxes_beside (joined_box bs) indices (largest_count fs) fs)

-- ---- what they come to

each_shell : (j : FontValue) (fs : List FontValue) → AllByRecursion (Below profile j) fs → AllByRecursion (λ f. f.shell ≡ j.shell) fs
each_shell j [] b = tt
each_shell j (f ∷ fs) b = (((sharing f j).1 b.0.0.0.0).shells, each_shell j fs b.1)

pub shells_stay : ShellsStay
shells_stay [] j c = absurd c
shells_stay (f ∷ fs) j c =
    let t = from_left (one f) fs in
    each_shell j (f ∷ fs) (subst (AllByRecursion (Below profile j)) (leaves_from_left (one f) fs) (all_leaves (Below profile j) t (above profile t j c)))
