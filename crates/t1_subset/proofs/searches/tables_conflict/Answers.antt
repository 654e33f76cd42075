use Rattle.std.proofs.Common.{[], refl, sym, ◌∙◌, ap, subst, unwrap_or, Some, None}
use Rattle.t1_algebra.specs.{Conflicts.{LacksComponent, SubrDiffers}, StateTables.{code_part, subr_part}}
use Rattle.t1_subset.{specs.Refusals.{Tells}, proofs.state_tables.Conflicts.{states_are, subr_clashing, glyph_found, component_found}}
use Rattle.t1_subset.proofs.searches.tables_conflict.Goals as goal

pub returns-in-Some-clause-err : goal.returns-in-Some-clause-err
returns-in-Some-clause-err c f g h k s =
    let a = c.left.view_is ∙ h.own in let b = c.right.view_is ∙ h.other in
    states_are f g s (c.in-Some.ensures f g h.own_font (ap code_part a) (ap code_part b)) refl refl refl

pub returns-in-Some-glyph_conflict-clause-err : goal.returns-in-Some-glyph_conflict-clause-err
returns-in-Some-glyph_conflict-clause-err c f g h k s =
    let a = c.left.view_is ∙ h.own in let b = c.right.view_is ∙ h.other in
    let code = c.in_default.ensures f g h.own_font (ap code_part a) (ap code_part b) in
    let glyph = glyph_found f g _ _ a b (Some c.in-Some-glyph_conflict.name.now) c.in-Some-glyph_conflict.ensures in
    subst (Tells c.glyph_differs.result) (sym (states_are f g s code glyph refl refl)) c.glyph_differs.ensures

pub returns-in-Some-component_conflict-clause-err : goal.returns-in-Some-component_conflict-clause-err
returns-in-Some-component_conflict-clause-err c f g h k s =
    let a = c.left.view_is ∙ h.own in let b = c.right.view_is ∙ h.other in
    let code = c.in_default.ensures f g h.own_font (ap code_part a) (ap code_part b) in
    let glyph = glyph_found f g _ _ a b None c.in_default-glyph_conflict.ensures in
    let part = component_found f g _ _ a b (Some c.in-Some-component_conflict.part.now) c.in-Some-component_conflict.ensures in
    let seeker = c.seeker.ensures ∙ k.seekers c.in-Some-component_conflict.part.now in
    subst (Tells c.lacks_component.result) (ap (λ s. Some (LacksComponent (unwrap_or s []) c.in-Some-component_conflict.part.now)) seeker
    ∙ sym (states_are f g s code glyph part refl)) c.lacks_component.ensures

pub returns-in-Some-subr_conflict-clause-err : goal.returns-in-Some-subr_conflict-clause-err
returns-in-Some-subr_conflict-clause-err c f g h k s =
    let a = c.left.view_is ∙ h.own in let b = c.right.view_is ∙ h.other in
    let code = c.in_default.ensures f g h.own_font (ap code_part a) (ap code_part b) in
    let glyph = glyph_found f g _ _ a b None c.in_default-glyph_conflict.ensures in
    let part = component_found f g _ _ a b None c.in_default-component_conflict.ensures in
    let index = c.in-Some-subr_conflict.ensures f g h.own_font (ap subr_part a) (ap subr_part b) in
    let there = subr_clashing f g c.in-Some-subr_conflict.index index in
    let user = c.user.ensures ∙ k.users c.in-Some-subr_conflict.index there.0 there.1 in
    subst (Tells c.subr_differs.result)
    (ap (λ u. Some (SubrDiffers c.in-Some-subr_conflict.index u)) user ∙ sym (states_are f g s code glyph part index)) c.subr_differs.ensures

pub returns-in-None-clause-ok : goal.returns-in-None-clause-ok
returns-in-None-clause-ok c f g h s =
    let a = c.left.view_is ∙ h.own in let b = c.right.view_is ∙ h.other in
    let code = c.in_default.ensures f g h.own_font (ap code_part a) (ap code_part b) in
    let glyph = glyph_found f g _ _ a b None c.in_default-glyph_conflict.ensures in
    let part = component_found f g _ _ a b None c.in_default-component_conflict.ensures in
    states_are f g s code glyph part (c.in-None.ensures f g h.own_font (ap subr_part a) (ap subr_part b))
