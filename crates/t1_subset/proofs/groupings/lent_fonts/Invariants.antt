use Rattle.std.proofs.Common.{take}
use Rattle.t1_subset.proofs.state_tables.Walks.{LentSoFar}
use Rattle.t1_subset.proofs.groupings.lent_fonts.Given as goal

abbrev pub invariant-fonts : goal.invariant-fonts
invariant-fonts l = LentSoFar l.lent.items (take l.font-index l.fonts)
