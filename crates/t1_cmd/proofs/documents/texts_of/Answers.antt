use Rattle.t1_cmd.proofs.DocumentLemmas.{text_more}
use Rattle.t1_cmd.proofs.documents.texts_of.Goals as goal

pub names-preserved : goal.names-preserved
names-preserved c =
    text_more c.args.names.now c.names.name-index _ c.names-test.true c.names.texts c.put.new.self c.names.invariant c.in_ok-put.ensures.put
