-- The names of a closure: a list of names without repeats.
use Rattle.std.specs.{Prelude.{ℕ, cond, List, [], ◌∷◌, ◌++◌}, Coded.{Coded, coded_list, coded_ℕ}, List.{list_any}}
use Rattle.t1_algebra.specs.Interpreter.{same_bytes}

-- the list with the name added at its end, unless it is there already
abbrev pub push_new : List (List ℕ) → List ℕ → List (List ℕ)
push_new ns n = cond (list_any (same_bytes n) ns) ns (ns ++ n ∷ [])

-- the list with each of these names added in turn, unless it is there already
abbrev pub push_all : List (List ℕ) → List (List ℕ) → List (List ℕ)
push_all ns [] = ns
push_all ns (p ∷ ps) = push_all (push_new ns p) ps

-- how a list of names is coded
abbrev pub closure_code : Coded (List (List ℕ))
closure_code = coded_list (coded_list coded_ℕ)
