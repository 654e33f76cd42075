use Rattle.t1_font.proofs.Lasts.{EndsMoved}
use Rattle.t1_font.proofs.repeats.keep_ends.Given as goal

abbrev pub invariant-entries : goal.invariant-entries
invariant-entries g l = EndsMoved (g.O.KeyOrder.by l.order) l.fn.entries.items l.entries.items l.at l.kept
