use Rattle.std.proofs.Common.{◌∙◌}
use Rattle.t1_document.specs.{Rewriting.{NewTexts, without_refused, level_fate}, Texts.{text_in, has_text}}
use Rattle.t1_document.proofs.PoolLoops.{one_level, all_fates}
use Rattle.t1_document.proofs.rewriting.push_levelled.Goals as goal

pub places-preserved : goal.places-preserved
places-preserved c =
    one_level (without_refused (has_text c.args.refused.now) (text_in c.args.new.now)) c.args.last.now c.args.places.now c.places.place-index _
    c.places-test.true _ c.places.out.items c.extend_from_slice.new.self.items c.push_place.new.out.items _ c.in_ok-extend_from_slice.ensures.items
    c.standing.ensures c.in_ok-push_place.ensures c.places.invariant

pub returns : goal.returns
returns c =
    let stand : NewTexts = without_refused (has_text c.args.refused.now) (text_in c.args.new.now) in
    c.in_ok-extend_from_slice-2.ensures.items
    ∙ all_fates (λ p. level_fate (stand p.name)) c.args.last.now c.args.places.now c.places.place-index c.places-test.false _ c.places.out.items
    c.places.invariant
