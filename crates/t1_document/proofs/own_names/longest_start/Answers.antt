use Rattle.t1_document.proofs.LongestLoop.{longest_more, longest_all}
use Rattle.t1_document.proofs.own_names.longest_start.Goals as goal

pub texts-preserved : goal.texts-preserved
texts-preserved c =
    longest_more c.args.texts.now c.texts.text-index _ c.texts-test.true c.texts.longest.items c.longer-longest.result.items _ _ c.in_ok-other.ensures
    c.longer-longest.ensures c.texts.invariant

pub returns : goal.returns
returns c = longest_all c.args.texts.now c.texts.text-index c.texts-test.false c.texts.longest.items _ c.texts.invariant
