use Rattle.std.proofs.Common.{◌∷◌, ◌++◌, []}
use Rattle.t1_run.{specs.{Machine.{left_of}, Pens.{Draws}}, proofs.Between.{Between}}
use Rattle.t1_run.proofs.run.take_turns.Given as goal

abbrev pub decreases-turns : goal.decreases-turns
decreases-turns g l = left_of l.allowance

abbrev pub invariant-turns : goal.invariant-turns
invariant-turns g l =
    Between (g.S.Subroutines.subrs l.subrs) l.hints l.charstring l.initial.called l.is_one
    (Draws g.P.Pen.marked (g.P.Pen.page l.initial.pen) (g.P.Pen.page l.pen)) (l.call_stack.items ++ l.top ∷ [])
    l.machine l.called l.initial.allowance l.allowance
