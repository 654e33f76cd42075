use Rattle.std.proofs.Common.{rules, ◌≡◌, List, ◌∷◌, map, sym, ap, subst}
use Rattle.t1_join.specs.Meaning.{Meaning}
use Rattle.t1_algebra.specs.{Profile.{profile}, Conflicts.{lacks_component, component_clashes}}
use Rattle.t1_subset.{specs.Refusals.{Adds}, proofs.{Telling.{adding_next, adding_ends, each_told}, state_tables.Sides.{components_passing}}}
use Rattle.t1_subset.proofs.differences.add_components.Goals as goal

pub sought-preserved : goal.sought-preserved
sought-preserved c =
    let f = c.args.own.now.references.font.now in let g = c.args.other.now.references.font.now in
    let e : Meaning × Meaning = (c.in-Some.field-0.now.0.now, c.in-Some.field-0.now.1.now) in
    let left : e ∷ c.next.new.self ≡ c.sought.component-iterator = search rules in
    adding_next (component_clashes profile f g) (lacks_component profile f g) _ _ _ _ e.0 (map (λ d. d.0) c.next.new.self)
    (map (λ d. d.0) c.sought.component-iterator) (ap (map (λ d. d.0)) (sym left)) c.sought.invariant c.in_ok-add_component.ensures

pub returns : goal.returns
returns c =
    let own = c.args.own.now in let other = c.args.other.now in
    let f = own.references.font.now in let g = other.references.font.now in
    subst (Adds c.args.all.now.items c.sought.all.items)
    (ap (map (lacks_component profile f g)) (components_passing own.references other.references own.states other.states c.requires.own c.requires.other))
    (adding_ends _ _ _ _
    (ap (λ (es : List (Meaning × Meaning)). each_told (component_clashes profile f g) (lacks_component profile f g) (map (λ d. d.0) es))
    c.in-None.ensures.steps.0) c.sought.invariant)
