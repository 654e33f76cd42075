use Rattle.std.proofs.Common.{take}
use Rattle.t1_run.specs.Budgets.{Spends}
use Rattle.t1_subset.{specs.Budgets.{fonts_tokens}, proofs.state_tables.Walks.{NotedSoFar, shown}}
use Rattle.t1_subset.proofs.groupings.note_fonts.Given as goal

abbrev pub invariant-fonts : goal.invariant-fonts
invariant-fonts l =
    NotedSoFar l.references.items l.states.items (shown (take l.font-index l.fonts))
    × Spends (fonts_tokens (shown (take l.font-index l.fonts))) l.initial.budget.left l.budget.left
