-- Files that are refused don't join.
use Rattle.std.proofs.Common.{◌≡◌, ℕ, List, false, Option, None, Err, is_some, ap}
use Rattle.t1_classes.specs.{declared.refusals.Refusal.{Refusal}, Partition.{File}, Joining.{joined_text, joins, IsJoined}}

-- files that are refused have no text
pub refused_none : (name : List ℕ) (files : List File) (why : Refusal) → IsJoined name files (Err why) → joined_text name files ≡ None
unfolding joined_text
refused_none name files why h = h.0

-- files without a text don't join
pub none_fails : (name : List ℕ) (files : List File) → joined_text name files ≡ None → joins name files ≡ false
unfolding joins
none_fails name files e = ap (λ (o : Option (List ℕ)). is_some o) e
