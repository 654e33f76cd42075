use Rattle.t1_cmd.{specs.Count.{calls_counted, failed_of, inner_of}, proofs.ReadLemmas.{ReadSoFar}}
use Rattle.t1_cmd.proofs.reading.read_all.Given as goal

abbrev pub invariant-loop-turn : goal.invariant-loop-turn
invariant-loop-turn g l = ReadSoFar l.limit l._turn (g.R.Read.remaining (inner_of l.initial.reader)) (g.R.Read.remaining (inner_of l.reader))
    (calls_counted l.initial.reader) (calls_counted l.reader) (failed_of l.initial.reader) (failed_of l.reader) l.bytes.items
