use Rattle.std.proofs.Common.{List, subst}
use Rattle.t1_font.specs.{FontValue.{FontValue}, Canon.{canon}}
use Rattle.t1_algebra.specs.Merges.{ComesTo}
use Rattle.t1_subset.specs.Budgets.{merge_tokens, IsEnough}
use Rattle.t1_cmd.{specs.{Answers.{MayRefuse}, Budgets.{MergesWithin}}, proofs.{MergeLemmas.{same_text}}}
use Rattle.t1_cmd.proofs.mergers.merged_file.Goals as goal

pub returns-in-Err-clause-refused : goal.returns-in-Err-clause-refused
returns-in-Err-clause-refused c =
    subst (λ (fs : List FontValue). MayRefuse (MergesWithin c.args.budget.left c.args.form fs) c.in-Err.reason) c.as_slice.ensures.value
    (c.in-Err.ensures.refused c.args.form)

pub returns-clause-text : goal.returns-clause-text
returns-clause-text c = (
  (
    c.in-Ok.font,
    subst (λ (fs : List FontValue). ComesTo fs c.in-Ok.font) c.as_slice.ensures.value c.in-Ok.ensures.comes,
    same_text (canon c.in-Ok.font c.args.form) c.in_ok-text.text.items c.in_ok-text.ensures,
  ),
  subst (λ (fs : List FontValue). IsEnough c.args.budget.left (merge_tokens fs)) c.as_slice.ensures.value c.in-Ok.ensures.enough,
)
