use Rattle.t1_dsc.proofs.WriteLoops.{times_more, times_all}
use Rattle.t1_dsc.proofs.quiet.push_times.Goals as goal

pub words-preserved : goal.words-preserved
words-preserved c =
    times_more c.words.counter c.args.count c.args.word.now c.words-test.true c.words.out.items _ _ c.in_ok-extend_from_slice.ensures.items c.words.invariant

pub returns : goal.returns
returns c = times_all c.words.counter c.args.count c.args.word.now c.words-test.false c.words.out.items _ c.words.invariant
