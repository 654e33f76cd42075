-- The interpreter of this project's rules of charstrings, over the Subrs of a font.
use Rattle.std.specs.{Prelude.{◌≡◌, ℕ, true, List, ◌++◌}, List.{Contains}, Ordering.{nat_cmp}, Cmp.{nat_cmp_total}}
use Rattle.std.proofs.{Common.{sym, ◌∙◌, ap}, lemmas.Map.Views.{list_any-from_Contains}, lemmas.Cmp.{eq_by_cmp_equiv}}
use Rattle.t1_run.{specs.{State.{Ending}, Run.{direct, direct3, exec}, Drawings.{parts_of}}, proofs.Locality.{local}}
use Rattle.t1_font.specs.FontValue.{SparseArray}
use Rattle.t1_algebra.specs.Interpreter.{Interpreter, Numbers}
use Rattle.std.specs.FinMap as maps
use Rattle.std.specs.FinSet as sets

-- an index in a list is in the set of the list
pub in_set_of : (indices : List ℕ) (i : ℕ) → Contains indices i → sets.contains (sets.from_list {R = nat_cmp} indices) i ≡ true
in_set_of indices i h = sets.contains-from_list nat_cmp_total indices i ∙ list_any-from_Contains (eq_by_cmp_equiv nat_cmp_total) i indices h

-- the set of a list of indices
abbrev pub set_of : List ℕ → Numbers
set_of indices = sets.from_list indices

-- what a charstring comes to where hints are replaced, and where they are kept
abbrev pub Endings : Type 0
Endings = Ending × Ending

-- what a charstring comes to over these Subrs, by both answers to hint replacement
abbrev pub endings : SparseArray → List ℕ → Endings
endings s c = (direct (maps.get s) c, direct3 (maps.get s) c)

-- the components that either ending names
abbrev pub names_of_both : Endings → List (List ℕ)
names_of_both ends = parts_of ends.0 ++ parts_of ends.1

-- a charstring comes to the same over two tables of Subrs that agree at what it executes
pub profile_local : (s t : SparseArray) (c : List ℕ) → ((i : ℕ) → sets.contains (set_of (exec (maps.get s) c)) i ≡ true → maps.get t i ≡ maps.get s i)
    → (endings t c ≡ endings s c) × (set_of (exec (maps.get t) c) ≡ set_of (exec (maps.get s) c))
profile_local s t c h =
    let l = local (maps.get s) (maps.get t) c (λ i k. sym (h i (in_set_of (exec (maps.get s) c) i k))) in (λ i. (l.0 i, l.1 i), ap set_of l.2)

-- what a charstring comes to by both answers to hint replacement, what it executes by either, and the standard names of its components by either
unfoldable pub profile : Interpreter Endings
profile = record { direct = endings; exec = λ s c. set_of (exec (maps.get s) c); names = names_of_both; local = profile_local }
