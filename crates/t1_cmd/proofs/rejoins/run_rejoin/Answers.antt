use Rattle.std.proofs.Common.{None}
use Rattle.t1_cmd.specs.{Fonts.{mended_input}, Mergers.{inputs_of}, Rejoins.{RejoinsTo}, Budgets.{RejoinsWithin}}
use Rattle.t1_cmd.proofs.{Budgets.{rejoins_without, ends_too}, RunLemmas.{ends_succeeds}, RejoinLemmas.{rejoins_apart}, CutLemmas.{writes_rejoined}}
use Rattle.t1_cmd.proofs.rejoins.run_rejoin.Goals as goal

pub returns-clause-ends : goal.returns-clause-ends
returns-clause-ends g c =
    ends_too mended_input (RejoinsWithin None c.args.form) (RejoinsTo c.args.form) (rejoins_without c.args.form) g.W.Write.contents
    (inputs_of g.R.Read.remaining c.args.readers.now c.run_rejoin_within.new.readers) c.args.writer.now c.run_rejoin_within.new.writer
    c.run_rejoin_within.result
    c.run_rejoin_within.ensures.ends

pub returns-clause-succeeds : goal.returns-clause-succeeds
returns-clause-succeeds g c =
    ends_succeeds mended_input (RejoinsTo c.args.form) (rejoins_apart c.args.form) g.W.Write.contents
    (inputs_of g.R.Read.remaining c.args.readers.now c.run_rejoin_within.new.readers) c.args.writer.now c.run_rejoin_within.new.writer
    c.run_rejoin_within.result
    (returns-clause-ends g c)

pub returns-clause-cuts : goal.returns-clause-cuts
returns-clause-cuts g c =
    writes_rejoined g.W.Write.contents c.args.form (inputs_of g.R.Read.remaining c.args.readers.now c.run_rejoin_within.new.readers) c.args.writer.now
    c.run_rejoin_within.new.writer c.run_rejoin_within.result (returns-clause-ends g c)
