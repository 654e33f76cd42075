use Rattle.std.proofs.Common.{sym, ◌∙◌, ap}
use Rattle.t1_algebra.specs.StateTables.{StatesValue}
use Rattle.t1_subset.proofs.{state_tables.Conflicts.{parts_seen, tells_shell, tells_states}, state_tables.Walks.{limits_refuse}}
use Rattle.t1_subset.proofs.in_turn.conflict_of.Goals as goal

pub returns-in-Err : goal.returns-in-Err
returns-in-Err c f g h k apart = tells_states f g _ (tells_shell f g _ (parts_seen f g _ _
    (ap (λ (s : StatesValue). s.0) (c.left.view_is ∙ h.own)) (ap (λ (s : StatesValue). s.0) (c.right.view_is ∙ h.other))) _ c.in-Err.ensures.err)

pub returns-in-Ok : goal.returns-in-Ok
returns-in-Ok c f g h k apart =
    let shells = parts_seen f g _ _ (ap (λ (s : StatesValue). s.0) (c.left.view_is ∙ h.own)) (ap (λ (s : StatesValue). s.0) (c.right.view_is ∙ h.other)) in
    limits_refuse _ _ f g h (c.in-Ok.ensures.ok f g h (sym shells ∙ c.in_default.ensures.ok)) apart
