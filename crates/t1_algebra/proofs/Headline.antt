-- The written subsets of a font, read and merged in any order and grouping, come to the subset over all names.
use Rattle.std.proofs.Common.{◌≡◌, List, sym, ◌∙◌, ap, subst, Ok, IsPermutation}
use Rattle.t1_bytes.specs.{declared.form.Form.{Form}, declared.form.Form.TheVariants.{Pfa, Pfb}}
use Rattle.t1_join.specs.Groupings.{EachLeaf, leaves}
use Rattle.t1_font.{specs.{FontValue.{FontValue}, Canon.{canon, Fits}, IsFont.{IsFont}, ReadFont.{read_font}}, proofs.canonical.RoundTrip.{round_trip}}
use Rattle.t1_algebra.specs.{Interpreter.{Names}, Keep.{subset, IsOf}, Profile.{profile}, States.{joined_font}, Groupings.{union_all}, Alike.{DrawsAlike}}
use Rattle.t1_algebra.specs.Headline.{Making, Subset, Merge, Again, grouped_sets, FormsFit, Makes, ComesToSubset}
use Rattle.t1_algebra.proofs.{Fonts.{subset_is_font, two_subsets, all_of, all_is_of, all_alike}, Drawings.{subset_alike}}

module _ (f : FontValue) (h : IsFont f) where
  -- a subset has the head of its font, so it fits the same forms
  subset_fits : (form : Form) (a : Names) → Fits form f → Fits form (subset profile f a)
  subset_fits Pfa a k = k
  subset_fits Pfb a k = k

  -- the file of a subset is read as that subset
  pub subset_again : (a : Names) (form : Form) → IsOf f a → Fits form f → read_font (canon (subset profile f a) form) ≡ Ok (subset profile f a)
  subset_again a form i k = round_trip (subset profile f a) form (subset_is_font profile f h a i) (subset_fits form a k)

  -- each making succeeds and comes to the subset over all its sets of names
  makes : (m : Making) → EachLeaf (IsOf f) (grouped_sets m) → FormsFit f m → Makes f m (subset profile f (all_of (grouped_sets m)))
  makes (Subset a form) i k = subset_again a form i k
  makes (Merge s t) i k =
      let both = two_subsets profile f h (all_of (grouped_sets s)) (all_of (grouped_sets t))
      (all_is_of f (grouped_sets s) i.0) (all_is_of f (grouped_sets t) i.1) in
      (subset profile f (all_of (grouped_sets s)), subset profile f (all_of (grouped_sets t)), makes s i.0 k.0, makes t i.1 k.1, (both.0, both.1))
  makes (Again form s) i k = (
    subset profile f (all_of (grouped_sets s)),
    makes s i k.1,
    subset_again (all_of (grouped_sets s)) form (all_is_of f (grouped_sets s) i) k.0,
  )

  -- a making comes to no other font
  makes_one : (m : Making) → EachLeaf (IsOf f) (grouped_sets m) → FormsFit f m → (j : FontValue) → Makes f m j → j ≡ subset profile f (all_of (grouped_sets m))
  makes_one (Subset a form) i k j d = let same = sym d ∙ subset_again a form i k in cc
  makes_one (Merge s t) i k j d =
      let left = makes_one s i.0 k.0 d.0 d.2 in
      let right = makes_one t i.1 k.1 d.1 d.3 in
      sym d.4.1 ∙ (λ x. joined_font profile (left x) (right x))
      ∙ (two_subsets profile f h (all_of (grouped_sets s)) (all_of (grouped_sets t)) (all_is_of f (grouped_sets s) i.0) (all_is_of f (grouped_sets t) i.1)).1
  makes_one (Again form s) i k j d =
      let on_the_way = makes_one s i k.1 d.0 d.1 in
      let same =
      sym d.2 ∙ ap (λ (p : FontValue). read_font (canon p form)) on_the_way
      ∙ subset_again (all_of (grouped_sets s)) form (all_is_of f (grouped_sets s) i) k.0 in
      cc

  -- a making from sets in any order comes to the subset over all of them
  pub comes_to_subset : (all : List Names) (m : Making) → IsPermutation all (leaves (grouped_sets m)) → EachLeaf (IsOf f) (grouped_sets m) → FormsFit f m →
      ComesToSubset f m (union_all all)
  comes_to_subset all m p i k =
      let same = all_alike all (grouped_sets m) p in
      let one : (j : FontValue) → Makes f m j → j ≡ subset profile f (union_all all) = λ j d. makes_one m i k j d ∙ ap (subset profile f) same in
      record {
        succeeds = subst (λ (a : Names). Makes f m (subset profile f a)) same (makes m i k);
        bytes = λ j form d. ap (λ (g : FontValue). canon g form) (one j d);
        draws = λ j n d w. subst (λ (g : FontValue). DrawsAlike f g n) (sym (one j d))
            (subset_alike f h (union_all all) (subst (IsOf f) same (all_is_of f (grouped_sets m) i)) n w);
      }
