use Rattle.std.proofs.{Common.{[], subst, unwrap_or, Some, None}, lemmas.Result.{on_ok_weaker}}
use Rattle.t1_algebra.{specs.Conflicts.{LacksComponent}, proofs.Sets.{cases}}
use Rattle.t1_subset.{specs.Refusals.{Tells}, proofs.{Telling.{adds_passing, adds_failing}, state_tables.Sides.{component_is, seeker_is}}}
use Rattle.t1_subset.proofs.differences.add_component.Goals as goal

pub returns-in-Some : goal.returns-in-Some
returns-in-Some c =
    let own = c.args.own.now in let other = c.args.other.now in let p = c.args.component.now in
    let seeker = seeker_is own.references other.references own.states other.states c.requires.own c.requires.other p _ _ (Some c.in-Some.glyph.now)
    c.seeker_in.ensures c.seeker_in-2.ensures c.in-Some.ensures in
    let clashes = component_is own.references.font.now other.references.font.now p in
    on_ok_weaker c.add.result (λ h. adds_passing c.lacks_component.result _ _ _ _
    (grind (cases, clashes, seeker, c.is_in_either.ensures, c.if-not-is_in_either.false))
    (subst (λ x. Tells c.lacks_component.result (Some (LacksComponent (unwrap_or x []) p))) seeker c.lacks_component.ensures) h) c.add.ensures

pub returns-in-None : goal.returns-in-None
returns-in-None c =
    let own = c.args.own.now in let other = c.args.other.now in let p = c.args.component.now in
    let seeker = seeker_is own.references other.references own.states other.states c.requires.own c.requires.other p _ _ None
    c.seeker_in.ensures c.seeker_in-2.ensures c.in-None.ensures in
    let clashes = component_is own.references.font.now other.references.font.now p in
    adds_failing _ _ _ (grind (cases, clashes, seeker))
