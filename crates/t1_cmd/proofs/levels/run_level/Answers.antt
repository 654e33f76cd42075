use Rattle.t1_cmd.{specs.{Mergers.{inputs_of}, Documents.{file_input}}, proofs.LevelLemmas.{succeeds_where_known}}
use Rattle.t1_cmd.proofs.levels.run_level.Goals as goal

pub returns-clause-succeeds : goal.returns-clause-succeeds
returns-clause-succeeds g c =
    succeeds_where_known file_input (inputs_of g.R.Read.remaining c.args.readers.now c.read_levelled.new.readers) c.read_levelled.result
    c.read_levelled.ensures.stops
