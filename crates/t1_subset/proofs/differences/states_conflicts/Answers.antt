use Rattle.std.proofs.Common.{[], List, map, filter, not, ap, sym, subst, ◌∙◌}
use Rattle.t1_algebra.specs.{StateTables.{StatesValue}, Conflicts.{ShellDiffers}, Shared.{same_part, all_parts}}
use Rattle.t1_subset.{specs.{declared.conflict.Conflict.{Conflict as Refusal}, Refusals.{TellEach, Adds}}, proofs.Telling.{adds_both}}
use Rattle.t1_subset.proofs.differences.states_conflicts.Goals as goal

pub returns : goal.returns
returns c =
    let one = c.shared.ensures ∙ ap (λ (s : StatesValue). s.0) c.requires.own.states in
    let two = c.shared-2.ensures ∙ ap (λ (s : StatesValue). s.0) c.requires.other.states in
    let last = adds_both _ _ _ _ _ c.in_ok-add_components.ensures c.in_ok-add_subrs.ensures in
    let glyphs = adds_both _ _ _ _ _ c.in_ok-add_glyphs.ensures last in
    let codes = adds_both _ _ _ _ _ c.in_ok-add_codes.ensures glyphs in
    let parts : Adds c.new-all.result.items c.add_parts.new.all.items (map ShellDiffers (filter (λ part. not (same_part (one 1) (two 1) part)) all_parts)) =
    subst (Adds c.new-all.result.items c.add_parts.new.all.items)
    (λ j. map ShellDiffers (filter (λ part. not (same_part (one j) (two j) part)) all_parts)) c.in_ok-add_parts.ensures in
    adds_both _ _ _ _ _ parts codes [] (subst (λ (es : List Refusal). TellEach es []) (sym c.new-all.ensures.items) tt)
