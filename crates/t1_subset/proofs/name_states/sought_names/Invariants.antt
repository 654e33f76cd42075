use Rattle.std.proofs.Common.{◌≡◌, [], cond, Some, None}
use Rattle.t1_join.specs.Meaning.{Meaning}
use Rattle.t1_algebra.proofs.Tables.{with_sought}
use Rattle.std.specs.FinMap as maps
use Rattle.t1_subset.proofs.name_states.sought_names.Given as goal

abbrev pub invariant-seekers : goal.invariant-seekers
invariant-seekers l = (q : Meaning) → with_sought l.sought l.component-iterator q ≡ cond (maps.contains_key l.seekers q) (Some []) None
