use Rattle.std.proofs.Common.{arith, ◌≡◌, ◌<◌, ℕ, ◌∙◌, Option, Some, None, SomeIff}
use Rattle.t1_subset.proofs.state_tables.Conflicts.{code_found, code_below}
use Rattle.t1_subset.proofs.searches.code_conflict.Goals as goal

is_held : (r : Option ℕ) (c : ℕ) → SomeIff r (c < 256) c → c < 256 → r ≡ Some c
is_held r c h l = grind arith

pub returns-in-Some : goal.returns-in-Some
returns-in-Some c f g h own other =
    let found = code_found f g _ _ (Some c.in-Some.code.now) c.in-Some.ensures own other in
    is_held c.byte_of.result c.in-Some.code.now c.byte_of.ensures (code_below f g h c.in-Some.code.now found) ∙ found

pub returns-in-None : goal.returns-in-None
returns-in-None c f g h own other = code_found f g _ _ None c.in-None.ensures own other
