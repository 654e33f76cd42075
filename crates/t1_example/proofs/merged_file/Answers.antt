use Rattle.std.proofs.{Common.{◌≡◌, ◌∙◌, ap, inr, subst}, lemmas.Result.{err_from_is_err_and}}
use Rattle.t1_font.specs.{Canon.{canon}, FontValue.{FontValue}}
use Rattle.t1_algebra.specs.{Conflicts.{conflict}, Profile.{profile}, States.{Join, joined_font}}
use Rattle.t1_subset.specs.Refusals.{Tells}
use Rattle.t1_example.proofs.merged_file.Goals as goal

pub returns-in_err-font-clause-subsets : goal.returns-in_err-font-clause-subsets
returns-in_err-font-clause-subsets c =
    let p = err_from_is_err_and c.from_residual-in_err-font.result c.from_residual-in_err-font.ensures.1 in rw (p.1, p.2) (λ f a b w i k eg eh.
    c.in_err-font.ensures.subsets f w a b i k (c.in_ok-one.ensures ∙ eg) (c.in-Ok.ensures ∙ eh))

pub returns-clause-subsets : goal.returns-clause-subsets
returns-clause-subsets c = λ f a b w i k eg eh.
    c.in_ok-file.ensures.canon
    ∙ ap (λ (j : FontValue). canon j c.args.form) (c.in_ok-font.ensures.subsets f w a b i k (c.in_ok-one.ensures ∙ eg) (c.in-Ok.ensures ∙ eh))

pub returns-in_err-file-clause-subsets : goal.returns-in_err-file-clause-subsets
returns-in_err-file-clause-subsets c =
    let p = err_from_is_err_and c.from_residual-in_err-file.result c.from_residual-in_err-file.ensures.1 in rw (p.1, p.2) (λ f a b w i k eg eh. tt)

pub returns-in_err-font-clause-comes : goal.returns-in_err-font-clause-comes
returns-in_err-font-clause-comes c =
    let p = err_from_is_err_and c.from_residual-in_err-font.result c.from_residual-in_err-font.ensures.1 in rw (p.1, p.2) (inr (
    subst (λ (g : FontValue). Tells c.in_err-font.field-0.0 (conflict profile g c.args.second.now)) c.in_ok-one.ensures
    (subst (λ (h : FontValue). Tells c.in_err-font.field-0.0 (conflict profile c.in_ok-one.one h)) c.in-Ok.ensures c.in_err-font.ensures.comes)))

pub returns-clause-comes : goal.returns-clause-comes
returns-clause-comes c =
    subst (λ (g : FontValue). Join profile g c.args.second.now × (c.in_ok-file.field-0.items ≡ canon (joined_font profile g c.args.second.now) c.args.form))
    c.in_ok-one.ensures
    (subst (λ (h : FontValue). Join profile c.in_ok-one.one h × (c.in_ok-file.field-0.items ≡ canon (joined_font profile c.in_ok-one.one h) c.args.form))
    c.in-Ok.ensures
    (c.in_ok-font.ensures.comes.0, c.in_ok-file.ensures.canon ∙ ap (λ (j : FontValue). canon j c.args.form) c.in_ok-font.ensures.comes.1))
