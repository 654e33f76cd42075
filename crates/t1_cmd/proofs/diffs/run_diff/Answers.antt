use Rattle.std.proofs.Common.{None, [], ◌∷◌}
use Rattle.t1_cmd.specs.{Inputs.{input_of}, Fonts.{font_input}, Runs.{ended}, Diffs.{DiffersBy}, Budgets.{DiffersWithin}}
use Rattle.t1_cmd.proofs.{Budgets.{differs_without, ends_too}, RunLemmas.{ends_succeeds}, DiffLemmas.{never_refused}}
use Rattle.t1_cmd.proofs.diffs.run_diff.Goals as goal

pub returns-clause-ends : goal.returns-clause-ends
returns-clause-ends g c =
    ends_too font_input (DiffersWithin None) DiffersBy differs_without g.W.Write.contents
    (input_of g.R.Read.remaining c.args.first.now c.run_diff_within.new.first ∷ input_of g.S.Read.remaining c.args.second.now c.run_diff_within.new.second ∷ [])
    c.args.writer.now c.run_diff_within.new.writer (ended c.run_diff_within.result) c.run_diff_within.ensures.ends

pub returns-clause-succeeds : goal.returns-clause-succeeds
returns-clause-succeeds g c =
    ends_succeeds font_input DiffersBy never_refused g.W.Write.contents
    (input_of g.R.Read.remaining c.args.first.now c.run_diff_within.new.first ∷ input_of g.S.Read.remaining c.args.second.now c.run_diff_within.new.second ∷ [])
    c.args.writer.now c.run_diff_within.new.writer (ended c.run_diff_within.result) (returns-clause-ends g c)
