use Rattle.std.proofs.Common.{◌++◌, [], ◌-◌, ◌+◌, length, arith, ap, ◌∙◌}
use Rattle.std.proofs.{lemmas.List.{length-map}}
use Rattle.t1_classes.specs.{Joining.{joins}, Partition.{fitted, groups_from, singles}, Views.{lent, group_lists, fit_view}}
use Rattle.t1_classes.proofs.Turns.{grown, turn_more, turn_last, no_turn, is_zero, not_zero}
use Rattle.t1_classes.proofs.fitting.groups_from.Goals.{else-groups-test, then-groups-test+in_ok-fit+then-is_empty}
use Rattle.t1_classes.proofs.fitting.groups_from.Goals as goal

pub groups-preserved : goal.groups-preserved
groups-preserved c =
    let left = c.groups.left.items in
    let fit = fit_view c.in_ok-fit.fit in
    ap (λ gs. gs ++ groups_from (joins c.args.name.now) (length c.args.files.now - (c.groups._turn + 1)) fit.left)
    (ap group_lists c.in_ok-push.ensures.items ∙ grown c.groups.groups.items c.in_ok-fit.fit.group)
    ∙ turn_more (joins c.args.name.now) (group_lists c.groups.groups.items) (length c.args.files.now) c.groups._turn c.groups-test.true _ (lent left) fit
    (c.in_ok-fit.ensures (length (lent left)) (omega (arith, length-map left (λ f. f.now), ap length c.as_slice.ensures.value))
    ∙ ap (λ xs. fitted (joins c.args.name.now) (length (lent left)) [] (lent xs)) c.as_slice.ensures.value)
    c.groups.invariant
    (omega (arith, length-map c.in_ok-fit.fit.group.items (λ f. f.now), c.in_ok-fit.fit.group.ok, not_zero _ _ c.is_empty.ensures c.if-is_empty.false))

pub returns : goal.returns
returns c =
    c.in_ok-push_singles.ensures
    ∙ (ap (λ xs. group_lists c.groups.groups.items ++ singles (lent xs)) c.as_slice-2.ensures.value
    ∙ elim c.groups-test.branch [
      | else-groups-test w ↦
          ap (λ v. group_lists c.groups.groups.items ++ singles (lent v.items)) w.left-is
          ∙ no_turn (joins c.args.name.now) (group_lists c.groups.groups.items) (length c.args.files.now) c.groups._turn w.groups-test.false _
          (lent c.groups.left.items) c.groups.invariant
      | then-groups-test+in_ok-fit+then-is_empty w ↦
          ap (λ v. group_lists c.groups.groups.items ++ singles (lent v.items)) w.left-is
          ∙ turn_last (joins c.args.name.now) (group_lists c.groups.groups.items) (length c.args.files.now) c.groups._turn w.groups-test.true _
          (lent c.groups.left.items) (fit_view w.in_ok-fit.fit)
          (w.in_ok-fit.ensures (length (lent c.groups.left.items))
          (omega (arith, length-map c.groups.left.items (λ f. f.now), ap length w.as_slice.ensures.value))
          ∙ ap (λ xs. fitted (joins c.args.name.now) (length (lent c.groups.left.items)) [] (lent xs)) w.as_slice.ensures.value)
          c.groups.invariant
          (omega (arith, length-map w.in_ok-fit.fit.group.items (λ f. f.now), w.in_ok-fit.fit.group.ok, is_zero _ _ w.is_empty.ensures w.if-is_empty.true))
    ])
