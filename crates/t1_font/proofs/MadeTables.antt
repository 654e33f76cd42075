-- Entries by number, with their numbers as keys of a table.
use Rattle.std.proofs.Common.{◌≡◌, ℕ, Bor, T, List, [], ◌∷◌, refl, sym, ◌∙◌, ap, ◌&&◌, map, subst}
use Rattle.std.proofs.Common.{nat_cmp, is_lt}
use Rattle.std.specs.{FinMap.{is_sorted}, FinMap.Entries.{below_all}}
use Rattle.t1_join.proofs.Sorted.{map_of}
use Rattle.t1_join.specs.{TableMeaning.{TableMeaning, Rises, entry_meanings}, Meaning.{Meaning, meaning_cmp, of_number, by_number_law}}
use Rattle.t1_font.specs.{Lent.{lent_number}, MadeTables.{numbered}}
use Rattle.std.specs.FinMap as maps

-- entries with their numbers as keys of a table
abbrev pub keyed : List (ℕ × List ℕ) → List (Meaning × Meaning)
keyed es = map (λ e. (of_number e.0, e.1)) es

below_keyed : (k : ℕ) (es : List (ℕ × List ℕ)) → below_all meaning_cmp (of_number k) (keyed es) ≡ below_all nat_cmp k es
below_keyed k [] = refl
below_keyed k (e ∷ es) = λ i. is_lt (sym (by_number_law k e.0) i) && below_keyed k es i

pub sorted_keyed : (es : List (ℕ × List ℕ)) → is_sorted meaning_cmp (keyed es) ≡ is_sorted nat_cmp es
sorted_keyed [] = refl
sorted_keyed (e ∷ es) = λ i. below_keyed e.0 es i && sorted_keyed es i

-- what entries mean that are lent, by number
pub keyed_lent : (es : List (ℕ × Bor (List ℕ))) → keyed (map lent_number es) ≡ entry_meanings of_number (λ s. s.now) es
keyed_lent [] = refl
keyed_lent (e ∷ es) = λ i. (of_number e.0, e.1.now) ∷ keyed_lent es i

-- entries by number that are a table's stand upwards by number
pub numbers_rise : (es : List (ℕ × List ℕ)) (t : TableMeaning) → keyed es ≡ maps.entries t → Rises nat_cmp es
numbers_rise es t is = subst T (sorted_keyed es) (subst (λ (es : List (Meaning × Meaning)). T (is_sorted meaning_cmp es)) (sym is) (maps.entries_sorted t))

-- and the map of them is that table
pub numbers_again : (es : List (ℕ × List ℕ)) (t : TableMeaning) → keyed es ≡ maps.entries t → numbered (maps.from_sorted {R = nat_cmp} es) ≡ t
numbers_again es t is = map_of _ t (ap keyed (maps.entries-from_sorted nat_cmp es (numbers_rise es t is)) ∙ is)
