use Rattle.std.proofs.Common.{◌∙◌, ap, map, subst, List}
use Rattle.t1_font.specs.FontValue.{FontValue}
use Rattle.t1_subset.specs.{declared.conflict.Conflict.TheVariants.{Memory}, Budgets.{merge_tokens, IsWithin}}
use Rattle.t1_subset.proofs.merger.merge_list.Goals as goal

pub returns-clause-within : goal.returns-clause-within
returns-clause-within c = subst (λ (fs : List FontValue). IsWithin Memory c.args.budget.left (merge_tokens fs) c.merge_lent.result)
    (ap (map (λ f. f.now)) c.as_slice.ensures.value ∙ c.in-Ok.ensures.lent) c.merge_lent.ensures.within
