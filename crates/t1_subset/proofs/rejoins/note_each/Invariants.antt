use Rattle.std.proofs.Common.{◌≡◌, take, drop}
use Rattle.t1_algebra.specs.Lacks.{lack_among, first_lack}
use Rattle.t1_subset.proofs.{state_tables.Walks.{NotedSoFar}, LackTokens.{SoughtSoFar}}
use Rattle.t1_subset.proofs.rejoins.note_each.Given as goal

abbrev pub invariant-fonts : goal.invariant-fonts
invariant-fonts l =
    NotedSoFar l.references.items l.states.items (take l.place l.full)
    × (lack_among l.fonts (drop l.place l.fonts) ≡ first_lack l.fonts)
    × SoughtSoFar l.fonts l.place l.fn.budget.left l.left.left
