use Rattle.std.proofs.Common.{rules, ◌≡◌, ℕ, List, ◌∷◌, map, sym, ap, subst}
use Rattle.t1_algebra.specs.{Profile.{profile}, Conflicts.{subr_differs, subr_clashes}}
use Rattle.t1_subset.{specs.Refusals.{Adds}, proofs.{Telling.{adding_next, adding_ends, each_told}, state_tables.Sides.{subrs_passing}}}
use Rattle.t1_subset.proofs.differences.add_subrs.Goals as goal

pub indices-preserved : goal.indices-preserved
indices-preserved c =
    let f = c.args.own.now.references.font.now in let g = c.args.other.now.references.font.now in
    let left : c.in-Some.index ∷ c.next.new.self ≡ c.indices.index-iterator = search rules in
    adding_next (subr_clashes profile f g) (subr_differs profile f g) _ _ _ _ c.in-Some.index c.next.new.self c.indices.index-iterator (sym left)
    c.indices.invariant c.in_ok-add_subr.ensures

pub returns : goal.returns
returns c =
    let f = c.args.own.now.references.font.now in let g = c.args.other.now.references.font.now in
    subst (Adds c.args.all.now.items c.indices.all.items) (ap (map (subr_differs profile f g)) (subrs_passing f g)) (adding_ends _ _ _ _
    (ap (λ (is : List ℕ). each_told (subr_clashes profile f g) (subr_differs profile f g) is) c.in-None.ensures.steps.0) c.indices.invariant)
