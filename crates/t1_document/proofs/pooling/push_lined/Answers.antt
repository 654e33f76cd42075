use Rattle.std.proofs.Common.{◌∙◌}
use Rattle.t1_document.specs.{Pooling.{line_fate}, Texts.{text_in}}
use Rattle.t1_document.proofs.PoolLoops.{one_fate, all_fates}
use Rattle.t1_document.proofs.pooling.push_lined.Goals as goal

pub places-preserved : goal.places-preserved
places-preserved c =
    one_fate (line_fate c.args.start.now c.args.by (text_in c.args.ends.now)) c.args.last.now c.args.places.now
    c.places.place-index _ c.places-test.true _ c.places.out.items c.extend_from_slice.new.self.items c.push_place.new.out.items
    c.in_ok-extend_from_slice.ensures.items c.in_ok-push_place.ensures c.places.invariant

pub returns : goal.returns
returns c =
    c.in_ok-extend_from_slice-2.ensures.items
    ∙ all_fates (line_fate c.args.start.now c.args.by (text_in c.args.ends.now)) c.args.last.now c.args.places.now
    c.places.place-index c.places-test.false _ c.places.out.items c.places.invariant
