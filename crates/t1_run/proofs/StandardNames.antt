-- The name that runs of names have for a code.
use Rattle.std.proofs.Common.{◌≡◌, ◌-◌, ◌∙◌, ◌+◌, ◌<◌, ℕ, sym, Bor, slice_index_or, drop, refl, ap, List, [], ◌∷◌, length, Bool, true, false, Option, None, map, nat_le, nat_lt, slice_get}
use Rattle.std.proofs.{Common.{if◌then◌else◌}, lemmas.Option.{slice_get-get_or, slice_get_past}, lemmas.Bool.{ltb-true, ltb-false}, lemmas.List.{at_drop_more}}
use Rattle.std.specs.Option.{option_or}
use Rattle.t1_run.specs.Standard.{named_in}

-- A run's name for a code, from its first code upwards.
abbrev pub name_from : ℕ → List (List ℕ) → ℕ → Option (List ℕ)
name_from first names code = if nat_le first code then slice_get names (code - first) else None

-- a place below the number of names has its name, and any other what the other runs say
inside : (names : List (List ℕ)) (place : ℕ) (other : Option (List ℕ)) →
    (if nat_lt place (length names) then slice_get names place else other) ≡ option_or (slice_get names place) other
inside names place other = by_place (nat_lt place (length names)) refl
  where
    by_place : (within : Bool) → nat_lt place (length names) ≡ within →
        (if within then slice_get names place else other) ≡ option_or (slice_get names place) other
    by_place true e =
        let found = slice_get-get_or names place [] (ltb-true place (length names) e) in
        found ∙ sym (ap (λ o. option_or o other) found)
    by_place false e = sym (ap (λ o. option_or o other) (slice_get_past names place (ltb-false place (length names) e)))

-- The first of some runs that has a name for a code decides.
pub named_or : (first : ℕ) (names : List (List ℕ)) (rest : List (ℕ × List (List ℕ))) (code : ℕ) →
    named_in ((first, names) ∷ rest) code ≡ option_or (name_from first names code) (named_in rest code)
named_or first names rest code = by_first (nat_le first code)
  where
    by_first : (above : Bool) →
        (if above then (if nat_lt (code - first) (length names) then slice_get names (code - first) else named_in rest code) else named_in rest code) ≡
        option_or (if above then slice_get names (code - first) else None) (named_in rest code)
    by_first true = inside names (code - first) (named_in rest code)
    by_first false = refl

-- A run as its borrowed names stand for names.
abbrev pub run_of : ℕ × Bor (List (Bor (List ℕ))) → ℕ × List (List ℕ)
run_of run = (run.0, map (λ name. name.now) (run.1).now)

-- What runs from one on have for a code, by what that one has.
pub from_run_on : (runs : List (ℕ × Bor (List (Bor (List ℕ))))) (i : ℕ) (d : ℕ × Bor (List (Bor (List ℕ)))) (code : ℕ) (found : Option (List ℕ)) →
    i < length runs → found ≡ name_from (run_of (slice_index_or runs i d)).0 (run_of (slice_index_or runs i d)).1 code →
    named_in (map run_of (drop i runs)) code ≡ option_or found (named_in (map run_of (drop (i + 1) runs)) code)
from_run_on runs i d code found h e =
    let run = run_of (slice_index_or runs i d) in
    let rest = map run_of (drop (i + 1) runs) in
    at_drop_more (λ left. named_in (map run_of left) code) runs i d h
    ∙ (named_or run.0 run.1 rest code ∙ ap (λ o. option_or o (named_in rest code)) (sym e))
