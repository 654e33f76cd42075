use Rattle.t1_subset.proofs.Plain.{plainly, plain_ok, comes_answer, fails_answer, draws_answer, subsets_answer, accepted_answer, any_order_answer}
use Rattle.t1_subset.proofs.merger.merge_all_within.Goals as goal

pub returns-clause-ok : goal.returns-clause-ok
returns-clause-ok c =
    plain_ok c.merge_list.result _ (plainly c.merge_list.result _ _ (λ r h. comes_answer c.args.fonts.now r h) c.merge_list.ensures.merges)

pub returns-clause-err : goal.returns-clause-err
returns-clause-err c = plainly c.merge_list.result _ _ (λ r h. fails_answer c.args.fonts.now r h) c.merge_list.ensures.merges

pub returns-clause-accepted : goal.returns-clause-accepted
returns-clause-accepted c = plainly c.merge_list.result _ _ (λ r h. accepted_answer c.args.fonts.now r h) c.merge_list.ensures.merges

pub returns-clause-any_order : goal.returns-clause-any_order
returns-clause-any_order c = plainly c.merge_list.result _ _ (λ r h. any_order_answer c.args.fonts.now r h) c.merge_list.ensures.merges

pub returns-clause-draws : goal.returns-clause-draws
returns-clause-draws c =
    plain_ok c.merge_list.result _ (plainly c.merge_list.result _ _ (λ r h. draws_answer c.args.fonts.now r h) c.merge_list.ensures.merges)

pub returns-clause-subsets : goal.returns-clause-subsets
returns-clause-subsets c = plainly c.merge_list.result _ _ (λ r h. subsets_answer c.args.fonts.now r h) c.merge_list.ensures.merges
