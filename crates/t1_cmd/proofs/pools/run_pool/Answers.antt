use Rattle.t1_cmd.{specs.{Runs.{ended}, Mergers.{inputs_of}, Documents.{text_input}, Pages.{PoolsTo}}, proofs.{RunLemmas.{ends_succeeds}, PageLemmas.{pools_apart}}}
use Rattle.t1_cmd.proofs.pools.run_pool.Goals as goal

pub returns-clause-succeeds : goal.returns-clause-succeeds
returns-clause-succeeds g c =
    ends_succeeds text_input (PoolsTo c.args.how) (pools_apart c.args.how)
    g.W.Write.contents (inputs_of g.R.Read.remaining c.args.readers.now c.write_pooled.new.readers)
    c.args.writer.now c.write_pooled.new.writer (ended c.write_pooled.result) c.write_pooled.ensures.ends
