-- Names in memory, as lists and as sets.
use Rattle.std.specs.{Prelude.{ℕ, List, map}, Borrow.{Bor}, Global.{Vec}, Coded.{Coded, coded_list, coded_ℕ}}
use Rattle.t1_algebra.specs.Interpreter.{Names}
use Rattle.std.specs.FinSet as sets

-- the names of a list, as bytes
abbrev pub listed_names : List (Vec ℕ) → List (List ℕ)
listed_names vs = map (λ v. v.items) vs

-- the names of a list of borrowed names
abbrev pub lent : List (Bor (List ℕ)) → List (List ℕ)
lent ns = map (λ n. n.now) ns

-- the set of names that are asked for
abbrev pub asked : List (Bor (List ℕ)) → Names
asked ns = sets.from_list (lent ns)

-- how a set of names is coded
abbrev pub names_code : Coded Names
names_code = sets.code (coded_list coded_ℕ)

-- the set of the names of a list
abbrev pub set_by : List (Vec ℕ) → Names
set_by vs = sets.from_list (listed_names vs)
