use Rattle.std.{proofs.Common.{◌≡◌, ℕ, List, not, ◌&&◌, drop, cond, Some, None}, specs.List.{list_any}}
use Rattle.t1_algebra.specs.{Interpreter.{same_bytes}, Keep.{has}, States.{joined_option}}
use Rattle.t1_subset.specs.NameSets.{lent}
use Rattle.std.specs.FinMap as maps
use Rattle.t1_subset.proofs.references.note_seekers.Given as goal

abbrev pub invariant-components : goal.invariant-components
invariant-components l = (q : List ℕ) →
    joined_option (maps.get l.seekers q) (cond (not (has l.font q) && list_any (same_bytes q) (lent (drop l.component-index l.components))) (Some l.glyph) None)
    ≡ joined_option (maps.get l.fn.seekers q) (cond (not (has l.font q) && list_any (same_bytes q) (lent l.components)) (Some l.glyph) None)
