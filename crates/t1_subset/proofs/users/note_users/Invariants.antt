use Rattle.std.{proofs.Common.{◌≡◌, ℕ, drop, cond, Some, None}, specs.List.{list_any}}
use Rattle.t1_algebra.specs.{Profile.{set_of}, Shared.{same_number}, States.{joined_option}}
use Rattle.t1_subset.specs.Users.{user_at}
use Rattle.std.specs.FinSet as sets
use Rattle.t1_subset.proofs.users.note_users.Given as goal

abbrev pub invariant-calls : goal.invariant-calls
invariant-calls l = (q : ℕ) →
    joined_option (user_at l.users.items q) (cond (list_any (same_number q) (drop l.index-index l.index-items)) (Some l.glyph) None)
    ≡ joined_option (user_at l.fn.users.items q) (cond (sets.contains (set_of l.calls) q) (Some l.glyph) None)
