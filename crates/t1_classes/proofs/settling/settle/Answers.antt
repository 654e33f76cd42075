use Rattle.std.proofs.Common.{◌+◌, ◌-◌, length, sym, ap, ◌∙◌, arith}
use Rattle.std.proofs.lemmas.List.{length-map}
use Rattle.t1_classes.specs.{Joining.{joins}, Partition.{pair_from, settled}, Views.{lent, group_lists}}
use Rattle.t1_classes.proofs.Pairs.{turn_joins, turn_settles, turns_end}
use Rattle.t1_classes.proofs.settling.settle.Goals.{else-groups-test, then-groups-test+in_ok-place+in-None}
use Rattle.t1_classes.proofs.settling.settle.Goals as goal

pub groups-preserved : goal.groups-preserved
groups-preserved c =
    let k = length c.args.groups.items in
    let t = joins c.args.name.now in
    ap (λ gs. settled t (k - (c.groups._turn + 1)) gs) (c.in_ok-join_at-in-Some.ensures)
    ∙ turn_joins t k c.groups._turn (group_lists c.groups.groups.items) _ c.groups.invariant c.in_ok-place.field-0
    (c.in_ok-place.ensures.places ∙ ap (λ gs. pair_from t 0 (group_lists gs)) c.as_slice.ensures.value)
    (omega (arith, c.groups-test.true, c.len-turn-end.ensures, c.args.groups.ok)) (c.in-Some.place, c.in-Some.other) c.in-Some.is

pub returns : goal.returns
returns c =
    let k = length c.args.groups.items in
    let t = joins c.args.name.now in
    elim c.groups-test.branch [
      | else-groups-test w ↦
          turns_end t k c.groups._turn (group_lists c.groups.groups.items) _ c.groups.invariant
          (omega (arith, w.groups-test.false, c.len-turn-end.ensures, c.args.groups.ok))
      | then-groups-test+in_ok-place+in-None w ↦
          turn_settles t k c.groups._turn (group_lists c.groups.groups.items) _ c.groups.invariant w.in_ok-place.field-0
          (w.in_ok-place.ensures.places ∙ ap (λ gs. pair_from t 0 (group_lists gs)) w.as_slice.ensures.value)
          (omega (arith, w.groups-test.true, c.len-turn-end.ensures, c.args.groups.ok)) w.in-None.is
    ]
    ∙ ap (λ n. settled t n (group_lists c.args.groups.items)) (sym (length-map c.args.groups.items (λ g. lent g.items)))
