-- One pass over two tables of glyphs meets the smallest name at which they differ.
use Rattle.std.proofs.{Common.{◌≡◌, refl, sym, ◌∙◌, ℕ, Bool, true, false, true≢false, List, Option, None, Some}, lemmas.Slice.Eq.{bytes_eq-Decides}}
use Rattle.std.specs.{Prelude.{MatchOption}, Str.{bytes_eq}, Cmp.Lexicographic.{nat_list_cmp_total}, FinMap.{get, find, entries, entries_sorted, get-entries}}
use Rattle.t1_join.proofs.Conflicts.{Says, both_agree, says_first}
use Rattle.t1_font.specs.{FontValue.{CharStrings, name_cmp}, Joins.{differing_name}}
use Rattle.t1_font_laws.specs.Differing.{DifferAt, IsFirstDiffering, MeetsSmallest}

module _ (m n : CharStrings) where
  abbrev agree : List ℕ → Bool
  agree q = both_agree bytes_eq (find name_cmp q (entries m)) (find name_cmp q (entries n))

  found : (q : List ℕ) → both_agree bytes_eq (get m q) (get n q) ≡ agree q
  found q = λ i. both_agree bytes_eq (get-entries m q i) (get-entries n q i)

  -- where the charstrings agree, the tables don't differ
  same_there : (q : List ℕ) → agree q ≡ true → ¬ DifferAt m n q
  same_there q h d =
      d.apart ((bytes_eq-Decides d.first d.second).0 ((λ i. both_agree bytes_eq (sym d.here i) (sym d.there i)) ∙ found q ∙ h))

  -- where they don't, there are two
  two_there : (q : List ℕ) (x y : Option (List ℕ)) → get m q ≡ x → get n q ≡ y → both_agree bytes_eq x y ≡ false → DifferAt m n q
  two_there q None y a b h = absurd (true≢false h)
  two_there q (Some v) None a b h = absurd (true≢false h)
  two_there q (Some v) (Some w) a b h = record {
    first = v;
    second = w;
    here = a;
    there = b;
    apart = λ e. true≢false (sym ((bytes_eq-Decides v w).1 e) ∙ h);
  }

  meets : (r : Option (List ℕ)) → Says name_cmp agree r → MatchOption r ((name : List ℕ) → ¬ DifferAt m n name) (IsFirstDiffering m n)
  meets None says = λ name. same_there name (says name)
  meets (Some q) says = record {
    differs = two_there q (get m q) (get n q) refl refl (found q ∙ says.0);
    none_lower = λ lower l. same_there lower (says.1 lower l);
  }

-- what one pass meets
pub meets_smallest : MeetsSmallest
meets_smallest m n = meets m n (differing_name m n) (says_first nat_list_cmp_total bytes_eq (entries m) (entries n) (entries_sorted m) (entries_sorted n))
