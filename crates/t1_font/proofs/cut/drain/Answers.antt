use Rattle.std.{proofs.Common.{◌++◌, ◌∙◌, ap}, specs.Map.{values_of}}
use Rattle.t1_font.proofs.Drains.{moved, all_moved}
use Rattle.t1_font.proofs.cut.drain.Goals as goal

pub entries-init : goal.entries-init
entries-init g c = ap (λ items. items ++ values_of c.into_iter-value-iterator.result) c.in_ok-values.ensures.items
    ∙ ap values_of c.into_iter-value-iterator.ensures.into_iter_gives.0

pub entries-preserved : goal.entries-preserved
entries-preserved g c = moved c.entries.values.items (values_of c.entries.value-iterator) (values_of c.args.map.entries)
    c.entries.invariant c.push.new.self.items (values_of c.next.new.self) c.in-Some.value c.in_ok-push.ensures.items (ap values_of c.in-Some.ensures.steps)

pub returns-clause-items : goal.returns-clause-items
returns-clause-items g c = all_moved c.entries.values.items (values_of c.entries.value-iterator)
    (values_of c.args.map.entries) c.entries.invariant (ap values_of c.in-None.ensures.steps.0)
