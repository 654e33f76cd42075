use Rattle.t1_subset.proofs.Answered.{of_subsets}
use Rattle.t1_subset.proofs.merger.merge.Goals as goal

pub returns-clause-subsets : goal.returns-clause-subsets
returns-clause-subsets c = of_subsets c.args.left.now c.args.right.now c.merge_two.result c.merge_two.ensures.ok c.merge_two.ensures.err
