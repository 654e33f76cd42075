use Rattle.t1_example.proofs.{Callers.{turned}, Outcomes.{of_sides}}
use Rattle.t1_example.proofs.merged.Goals as goal

pub returns-in-FirstIntoSecond-clause-subsets : goal.returns-in-FirstIntoSecond-clause-subsets
returns-in-FirstIntoSecond-clause-subsets c = turned c.args.first.now c.args.second.now c.merge.result c.merge.ensures.subsets

pub returns-in-SecondIntoFirst-clause-comes : goal.returns-in-SecondIntoFirst-clause-comes
returns-in-SecondIntoFirst-clause-comes c =
    of_sides c.args.first.now c.args.second.now c.merge-in-SecondIntoFirst.result c.merge-in-SecondIntoFirst.ensures.ok c.merge-in-SecondIntoFirst.ensures.err
