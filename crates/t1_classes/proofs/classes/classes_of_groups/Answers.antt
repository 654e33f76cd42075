use Rattle.std.proofs.Common.{◌+◌, List, Option, ◌≡◌, ◌++◌, ◌∷◌, [], take, sym, subst}
use Rattle.t1_classes.specs.{declared.refusals.Refusal.{Refusal}, declared.classes.Class.{Class}, Partition.{File}, Classes.{IsClass, IsApart, AreClasses}, Views.{lent, group_lists}}
use Rattle.t1_classes.proofs.Answered.{classes_more, groups_more}
use Rattle.t1_classes.proofs.classes.classes_of_groups.Goals as goal

pub rest-preserved : goal.rest-preserved
rest-preserved c =
    let name = c.args.name.now in
    let files = lent c.args.files.now in
    let first = lent c.in-Some.first.now.items in
    let g = lent c.group-item.result.items in
    let made = c.in_ok-class_of-2.field-0 in
    let is : IsClass name files g made =
    subst (λ (l : List _). IsClass name files (lent l) made) c.as_slice-in-rest-3.ensures.value c.in_ok-class_of-2.ensures.class in
    let both : lent c.as_slice-in-rest.result.now ++ lent c.as_slice-in-rest-2.result.now ≡ first ++ g = λ i.
    lent (c.as_slice-in-rest.ensures.value i) ++ lent (c.as_slice-in-rest-2.ensures.value i) in
    let apart : IsApart name (first ++ g) made.apart =
    subst (λ (o : Option Refusal). IsApart name (first ++ g) o) (sym c.in_ok-class_of-2.ensures.apart)
    (subst (λ (l : List File). IsApart name l c.in_ok-apart.apart) both c.in_ok-apart.ensures) in
    subst (λ (cs : List Class). AreClasses name files (first ∷ group_lists (take (c.rest.group-index + 1) c.in-Some.rest.now)) cs)
    (sym c.in_ok-push-2.ensures.items)
    (subst (λ (gs : List (List File)). AreClasses name files (first ∷ gs) (c.rest.classes.items ++ made ∷ []))
    (groups_more c.in-Some.rest.now c.rest.group-index c.group-item.result c.rest-test.true c.group-item.is)
    (classes_more name files first g made is apart _ c.rest.classes.items c.rest.invariant))
