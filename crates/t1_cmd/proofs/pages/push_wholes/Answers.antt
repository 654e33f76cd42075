use Rattle.t1_cmd.proofs.PageLemmas.{wholes_more, wholes_all}
use Rattle.t1_cmd.proofs.pages.push_wholes.Goals as goal

pub documents-preserved : goal.documents-preserved
documents-preserved c =
    wholes_more c.args.pages.now c.documents.i 0 c.documents-test.true c.documents.out.items c.push_whole.new.out.items _ c.in_ok-push_whole.ensures
    c.documents.invariant

pub returns : goal.returns
returns c = wholes_all c.args.pages.now c.documents.i c.documents-test.false c.documents.out.items _ c.documents.invariant
