use Rattle.std.proofs.Common.{None}
use Rattle.t1_cmd.specs.{Fonts.{font_input}, Mergers.{inputs_of, MergesToFile}, Budgets.{MergesWithin}}
use Rattle.t1_cmd.proofs.{Budgets.{merges_without, ends_too}, RunLemmas.{ends_succeeds}, MergeLemmas.{merges_apart}, WrittenSubsets.{writes_union}}
use Rattle.t1_cmd.proofs.mergers.run_merge.Goals as goal

pub returns-clause-ends : goal.returns-clause-ends
returns-clause-ends g c =
    ends_too font_input (MergesWithin None c.args.form) (MergesToFile c.args.form) (merges_without c.args.form) g.W.Write.contents
    (inputs_of g.R.Read.remaining c.args.readers.now c.run_merge_within.new.readers) c.args.writer.now c.run_merge_within.new.writer c.run_merge_within.result
    c.run_merge_within.ensures.ends

pub returns-clause-succeeds : goal.returns-clause-succeeds
returns-clause-succeeds g c =
    ends_succeeds font_input (MergesToFile c.args.form) (merges_apart c.args.form) g.W.Write.contents
    (inputs_of g.R.Read.remaining c.args.readers.now c.run_merge_within.new.readers) c.args.writer.now c.run_merge_within.new.writer c.run_merge_within.result
    (returns-clause-ends g c)

pub returns-clause-subsets : goal.returns-clause-subsets
returns-clause-subsets g c =
    writes_union g.W.Write.contents c.args.form (inputs_of g.R.Read.remaining c.args.readers.now c.run_merge_within.new.readers) c.args.writer.now
    c.run_merge_within.new.writer c.run_merge_within.result (returns-clause-ends g c)
