use Rattle.std.proofs.Common.{rules, refl, sym, ap, List, [], ◌∷◌, ◌++◌}
use Rattle.t1_run.specs.{declared.frames.Frame.{Frame}, declared.answer.Mark.{Mark}, Pens.{Draws}}
use Rattle.t1_run.proofs.Pages.{draws_more}
use Rattle.t1_run.proofs.Between.{at_start, leaves_fewer, told_with, told_with_flex, none_before, out, out_one, out_spends, refused, limit_so, limit_one, limit_spends, goes, ends_so}
use Rattle.t1_run.proofs.Between.{ends_one, ends_spends, stops_short, back, last, last_one, last_spends, fails_so, fails_one, fails_spends, calls, spent_as}
use Rattle.t1_run.specs.declared.answer.Halt.TheVariants as halt
use Rattle.t1_run.specs.declared.answer.Mark.TheVariants as mark
use Rattle.t1_run.specs.declared.machine.Flow.TheVariants as flow
use Rattle.t1_run.proofs.run.take_turns.Goals as goal

pub turns-init : goal.turns-init
turns-init g c =
    at_start (g.S.Subroutines.subrs c.args.subrs.now) c.args.hints c.args.charstring.now c.args.called.now
    (Draws g.P.Pen.marked (g.P.Pen.page c.args.pen.now) (g.P.Pen.page c.args.pen.now)) _ c.new-top.result c.new-machine.result
    (ap (λ (fs : List Frame). fs ++ c.new-top.result ∷ []) c.new-call_stack.ensures) c.new-machine.ensures c.new-top.ensures refl
    c.args.allowance.now c.requires

pub returns-in_err-end-clause-refused : goal.returns-in_err-end-clause-refused
returns-in_err-end-clause-refused g c =
    let short = refused c.turns.invariant c.turns.call_stack.items c.turns.top refl c.if-allowance-eq0.true
    c.end.new.top c.in_err-end.ensures.withheld in
    search rules

pub returns-then-allowance-eq0-clause-runs : goal.returns-then-allowance-eq0-clause-runs
returns-then-allowance-eq0-clause-runs g c =
    limit_so c.turns.invariant c.turns.call_stack.items c.turns.top refl c.if-allowance-eq0.true
    c.end.new.top c.in_ok-end.field-0 c.in_ok-end.ensures.ends

pub returns-then-allowance-eq0-clause-one : goal.returns-then-allowance-eq0-clause-one
returns-then-allowance-eq0-clause-one g c =
    limit_one c.turns.invariant c.turns.call_stack.items c.turns.top refl c.if-allowance-eq0.true
    c.end.new.top c.in_ok-end.field-0 c.in_ok-end.ensures.ends

pub returns-then-allowance-eq0-clause-executed : goal.returns-then-allowance-eq0-clause-executed
returns-then-allowance-eq0-clause-executed g c =
    limit_spends c.turns.invariant c.turns.call_stack.items c.turns.top refl c.if-allowance-eq0.true
    c.end.new.top c.in_ok-end.field-0 c.in_ok-end.ensures.ends

pub returns-in_default-clause-runs : goal.returns-in_default-clause-runs
returns-in_default-clause-runs g c = out c.turns.invariant c.turns.call_stack.items c.turns.top refl c.in_default.ensures.next.0

pub returns-in_default-clause-one : goal.returns-in_default-clause-one
returns-in_default-clause-one g c = out_one c.turns.invariant c.turns.call_stack.items c.turns.top refl c.in_default.ensures.next.0

pub returns-in_default-clause-executed : goal.returns-in_default-clause-executed
returns-in_default-clause-executed g c =
    out_spends c.turns.invariant c.turns.call_stack.items c.turns.top refl c.in_default.ensures.next.0
    c.spend.new.allowance c.in_default.ensures.withheld c.in_default.ensures.next.1

pub turns-preserved-in-Go : goal.turns-preserved-in-Go
turns-preserved-in-Go g c =
    let e = spent_as _ c.in-Some.ensures.next flow.Go c.in-Go.is in
    goes c.turns.invariant c.turns.call_stack.items c.turns.top refl c.spend.new.top e.0 c.spend.new.self c.spend.new.allowance
    flow.Go e.1 e.2 c.in-Some.ensures.withheld c.turns.is_one _ c.turns.invariant.marks _ refl c.turns.invariant.drawn (λ h. (h, refl))
    c.turns.invariant.told refl

pub turns-preserved-in-Mark : goal.turns-preserved-in-Mark
turns-preserved-in-Mark g c =
    let e = spent_as _ c.in-Some.ensures.next (flow.Mark c.in-Mark.mark) c.in-Mark.is in
    let marks = c.turns.invariant.marks in
    goes c.turns.invariant c.turns.call_stack.items c.turns.top refl c.spend.new.top e.0 c.spend.new.self c.spend.new.allowance
    (flow.Mark c.in-Mark.mark) e.1 e.2 c.in-Some.ensures.withheld _ _ (marks ++ c.in-Mark.mark ∷ []) _ refl
    (draws_more g.P.Pen.marked _ _ _ marks (c.in-Mark.mark ∷ []) c.turns.invariant.drawn c.in_ok-mark-in-Mark.ensures)
    (none_before c.in-Mark.mark c.turns.is_one c.is_replace.result c.is_replace.ensures)
    (told_with marks c.in-Mark.mark c.turns.is_one c.is_replace.result c.is_replace.ensures c.turns.invariant.told) refl

pub returns-in_err-mark-in-Mark-clause-more : goal.returns-in_err-mark-in-Mark-clause-more
returns-in_err-mark-in-Mark-clause-more g c =
    let e = spent_as _ c.in-Some.ensures.next (flow.Mark c.in-Mark.mark) c.in-Mark.is in
    let short = stops_short c.turns.invariant c.turns.call_stack.items c.turns.top refl c.spend.new.top e.0 c.spend.new.self c.spend.new.allowance
    (flow.Mark c.in-Mark.mark) e.1 e.2 c.in-Some.ensures.withheld in search rules

pub turns-preserved-in_ok-draw_flex-in-Flex : goal.turns-preserved-in_ok-draw_flex-in-Flex
turns-preserved-in_ok-draw_flex-in-Flex g c =
    let e = spent_as _ c.in-Some.ensures.next (flow.Flex c.in-Flex.height c.in-Flex.before c.in-Flex.after) c.in-Flex.is in
    let marks = c.turns.invariant.marks in
    let flex : List Mark = mark.Flex c.in-Flex.height ∷ mark.Curve c.in-Flex.before ∷ mark.Curve c.in-Flex.after ∷ [] in
    let drew : Draws g.P.Pen.marked (g.P.Pen.page c.turns.pen) (g.P.Pen.page c.draw_flex.new.pen) flex =
    let d = c.in_ok-draw_flex-in-Flex.ensures in search rules in
    goes c.turns.invariant c.turns.call_stack.items c.turns.top refl c.spend.new.top e.0 c.spend.new.self c.spend.new.allowance
    (flow.Flex c.in-Flex.height c.in-Flex.before c.in-Flex.after) e.1 e.2 c.in-Some.ensures.withheld
    c.turns.is_one _ (marks ++ flex) _ refl (draws_more g.P.Pen.marked _ _ _ marks flex c.turns.invariant.drawn drew) (λ h. (h, refl))
    (told_with_flex marks c.turns.is_one c.in-Flex.height c.in-Flex.before c.in-Flex.after c.turns.invariant.told) refl

pub returns-in_err-draw_flex-in-Flex-clause-more : goal.returns-in_err-draw_flex-in-Flex-clause-more
returns-in_err-draw_flex-in-Flex-clause-more g c =
    let e = spent_as _ c.in-Some.ensures.next (flow.Flex c.in-Flex.height c.in-Flex.before c.in-Flex.after) c.in-Flex.is in
    let short = stops_short c.turns.invariant c.turns.call_stack.items c.turns.top refl c.spend.new.top e.0 c.spend.new.self c.spend.new.allowance
    (flow.Flex c.in-Flex.height c.in-Flex.before c.in-Flex.after) e.1 e.2 c.in-Some.ensures.withheld in search rules

pub turns-preserved-in-Some-pop : goal.turns-preserved-in-Some-pop
turns-preserved-in-Some-pop g c =
    let e = spent_as _ c.in-Some.ensures.next flow.Back c.in-Back.is in
    back c.turns.invariant c.turns.call_stack.items c.turns.top refl c.spend.new.top e.0 c.spend.new.self c.spend.new.allowance
    e.1 c.in-Some.ensures.withheld e.2
    (c.pop.new.self.items ++ c.in-Some-pop.caller ∷ []) (sym c.in-Some-pop.ensures.items)

pub returns-in-Plain-clause-runs : goal.returns-in-Plain-clause-runs
returns-in-Plain-clause-runs g c =
    let e = spent_as _ c.in-Some.ensures.next (flow.Plain c.in-Plain.metrics) c.in-Plain.is in
    ends_so c.turns.invariant c.turns.call_stack.items c.turns.top refl c.spend.new.top e.0 c.spend.new.self c.spend.new.allowance
    (flow.Plain c.in-Plain.metrics) e.1 e.2 c.in-Some.ensures.withheld (halt.Plain c.in-Plain.metrics) refl

pub returns-in-Plain-clause-one : goal.returns-in-Plain-clause-one
returns-in-Plain-clause-one g c =
    let e = spent_as _ c.in-Some.ensures.next (flow.Plain c.in-Plain.metrics) c.in-Plain.is in
    ends_one c.turns.invariant c.turns.call_stack.items c.turns.top refl c.spend.new.top e.0 c.spend.new.self c.spend.new.allowance
    (flow.Plain c.in-Plain.metrics) e.1 e.2 c.in-Some.ensures.withheld (halt.Plain c.in-Plain.metrics) refl refl

pub returns-in-Plain-clause-executed : goal.returns-in-Plain-clause-executed
returns-in-Plain-clause-executed g c =
    let e = spent_as _ c.in-Some.ensures.next (flow.Plain c.in-Plain.metrics) c.in-Plain.is in
    ends_spends c.turns.invariant c.turns.call_stack.items c.turns.top refl c.spend.new.top e.0 c.spend.new.self c.spend.new.allowance
    (flow.Plain c.in-Plain.metrics) e.1 e.2 c.in-Some.ensures.withheld (halt.Plain c.in-Plain.metrics) refl

pub returns-in-Seac-clause-runs : goal.returns-in-Seac-clause-runs
returns-in-Seac-clause-runs g c =
    let e = spent_as _ c.in-Some.ensures.next (flow.Seac c.in-Seac.accent) c.in-Seac.is in
    ends_so c.turns.invariant c.turns.call_stack.items c.turns.top refl c.spend.new.top e.0 c.spend.new.self c.spend.new.allowance
    (flow.Seac c.in-Seac.accent) e.1 e.2 c.in-Some.ensures.withheld (halt.Seac c.in-Seac.accent) refl

pub returns-in-Seac-clause-one : goal.returns-in-Seac-clause-one
returns-in-Seac-clause-one g c =
    let e = spent_as _ c.in-Some.ensures.next (flow.Seac c.in-Seac.accent) c.in-Seac.is in
    ends_one c.turns.invariant c.turns.call_stack.items c.turns.top refl c.spend.new.top e.0 c.spend.new.self c.spend.new.allowance
    (flow.Seac c.in-Seac.accent) e.1 e.2 c.in-Some.ensures.withheld (halt.Seac c.in-Seac.accent) refl refl

pub returns-in-Seac-clause-executed : goal.returns-in-Seac-clause-executed
returns-in-Seac-clause-executed g c =
    let e = spent_as _ c.in-Some.ensures.next (flow.Seac c.in-Seac.accent) c.in-Seac.is in
    ends_spends c.turns.invariant c.turns.call_stack.items c.turns.top refl c.spend.new.top e.0 c.spend.new.self c.spend.new.allowance
    (flow.Seac c.in-Seac.accent) e.1 e.2 c.in-Some.ensures.withheld (halt.Seac c.in-Seac.accent) refl

pub returns-in-Fail-clause-runs : goal.returns-in-Fail-clause-runs
returns-in-Fail-clause-runs g c =
    let e = spent_as _ c.in-Some.ensures.next (flow.Fail c.in-Fail.fault) c.in-Fail.is in
    ends_so c.turns.invariant c.turns.call_stack.items c.turns.top refl c.spend.new.top e.0 c.spend.new.self c.spend.new.allowance
    (flow.Fail c.in-Fail.fault) e.1 e.2 c.in-Some.ensures.withheld (halt.Failed c.in-Fail.fault) refl

pub returns-in-Fail-clause-one : goal.returns-in-Fail-clause-one
returns-in-Fail-clause-one g c =
    let e = spent_as _ c.in-Some.ensures.next (flow.Fail c.in-Fail.fault) c.in-Fail.is in
    ends_one c.turns.invariant c.turns.call_stack.items c.turns.top refl c.spend.new.top e.0 c.spend.new.self c.spend.new.allowance
    (flow.Fail c.in-Fail.fault) e.1 e.2 c.in-Some.ensures.withheld (halt.Failed c.in-Fail.fault) refl refl

pub returns-in-Fail-clause-executed : goal.returns-in-Fail-clause-executed
returns-in-Fail-clause-executed g c =
    let e = spent_as _ c.in-Some.ensures.next (flow.Fail c.in-Fail.fault) c.in-Fail.is in
    ends_spends c.turns.invariant c.turns.call_stack.items c.turns.top refl c.spend.new.top e.0 c.spend.new.self c.spend.new.allowance
    (flow.Fail c.in-Fail.fault) e.1 e.2 c.in-Some.ensures.withheld (halt.Failed c.in-Fail.fault) refl

pub returns-in_err-take-in-Call-clause-more : goal.returns-in_err-take-in-Call-clause-more
returns-in_err-take-in-Call-clause-more g c =
    let e = spent_as _ c.in-Some.ensures.next (flow.Call c.in-Call.i) c.in-Call.is in
    let short = stops_short c.turns.invariant c.turns.call_stack.items c.turns.top refl c.spend.new.top e.0 c.spend.new.self c.spend.new.allowance
    (flow.Call c.in-Call.i) e.1 e.2 c.in-Some.ensures.withheld in search rules

pub turns-smaller : goal.turns-smaller
turns-smaller g c =
    let e = spent_as _ c.in-Some.ensures.next (flow.Call c.in-Call.i) c.in-Call.is in
    leaves_fewer (flow.Call c.in-Call.i) tt e.2

pub turns-smaller-in_ok-draw_flex-in-Flex : goal.turns-smaller-in_ok-draw_flex-in-Flex
turns-smaller-in_ok-draw_flex-in-Flex g c =
    let e = spent_as _ c.in-Some.ensures.next (flow.Flex c.in-Flex.height c.in-Flex.before c.in-Flex.after) c.in-Flex.is in
    leaves_fewer (flow.Flex c.in-Flex.height c.in-Flex.before c.in-Flex.after) tt e.2

pub returns-in-Err-clause-runs : goal.returns-in-Err-clause-runs
returns-in-Err-clause-runs g c =
    let e = spent_as _ c.in-Some.ensures.next (flow.Call c.in-Call.i) c.in-Call.is in
    fails_so c.turns.invariant c.turns.call_stack.items c.turns.top refl c.spend.new.top e.0 c.spend.new.self c.spend.new.allowance
    e.1 c.in-Some.ensures.withheld
    c.in-Call.i e.2 c.index_of-index.result c.remaining_capacity.result (search rules) c.remaining_capacity.ensures
    c.take.new.called c.in-Err.fault c.in_ok-take-in-Call.ensures.added c.in-Err.ensures

pub returns-in-Err-clause-one : goal.returns-in-Err-clause-one
returns-in-Err-clause-one g c =
    let e = spent_as _ c.in-Some.ensures.next (flow.Call c.in-Call.i) c.in-Call.is in
    fails_one c.turns.invariant c.turns.call_stack.items c.turns.top refl c.spend.new.top e.0 c.spend.new.self c.spend.new.allowance
    e.1 c.in-Some.ensures.withheld
    c.in-Call.i e.2 c.index_of-index.result c.remaining_capacity.result (search rules) c.remaining_capacity.ensures
    c.in-Err.fault c.in-Err.ensures

pub returns-in-Err-clause-executed : goal.returns-in-Err-clause-executed
returns-in-Err-clause-executed g c =
    let e = spent_as _ c.in-Some.ensures.next (flow.Call c.in-Call.i) c.in-Call.is in
    fails_spends c.turns.invariant c.turns.call_stack.items c.turns.top refl c.spend.new.top e.0 c.spend.new.self c.spend.new.allowance
    e.1 c.in-Some.ensures.withheld
    c.in-Call.i e.2 c.index_of-index.result c.remaining_capacity.result (search rules) c.remaining_capacity.ensures
    c.take.new.called c.in-Err.fault c.in_ok-take-in-Call.ensures.added c.in-Err.ensures

pub turns-preserved : goal.turns-preserved
turns-preserved g c =
    let e = spent_as _ c.in-Some.ensures.next (flow.Call c.in-Call.i) c.in-Call.is in
    calls c.turns.invariant c.turns.call_stack.items c.turns.top refl c.spend.new.top e.0 c.spend.new.self c.spend.new.allowance
    e.1 c.in-Some.ensures.withheld
    c.in-Call.i e.2 c.index_of-index.result c.remaining_capacity.result (search rules) c.remaining_capacity.ensures
    c.take.new.called c.in-Ok.charstring.now c.new-top-in-Ok.result c.push.new.self.items (c.push.new.self.items ++ c.new-top-in-Ok.result ∷ [])
    c.in_ok-take-in-Call.ensures.added c.in-Ok.ensures c.new-top-in-Ok.ensures c.push.ensures.items refl

pub returns-in-None-clause-runs : goal.returns-in-None-clause-runs
returns-in-None-clause-runs g c =
    let e = spent_as _ c.in-Some.ensures.next flow.Back c.in-Back.is in
    last c.turns.invariant c.turns.call_stack.items c.turns.top refl c.spend.new.top e.0 c.spend.new.self c.spend.new.allowance
    e.1 c.in-Some.ensures.withheld e.2 (search rules)

pub returns-in-None-clause-one : goal.returns-in-None-clause-one
returns-in-None-clause-one g c =
    let e = spent_as _ c.in-Some.ensures.next flow.Back c.in-Back.is in
    last_one c.turns.invariant c.turns.call_stack.items c.turns.top refl c.spend.new.top e.0 c.spend.new.self c.spend.new.allowance
    e.1 c.in-Some.ensures.withheld e.2 (search rules)

pub returns-in-None-clause-executed : goal.returns-in-None-clause-executed
returns-in-None-clause-executed g c =
    let e = spent_as _ c.in-Some.ensures.next flow.Back c.in-Back.is in
    last_spends c.turns.invariant c.turns.call_stack.items c.turns.top refl c.spend.new.top e.0 c.spend.new.self c.spend.new.allowance
    e.1 c.in-Some.ensures.withheld e.2 (search rules)
