use Rattle.std.proofs.{Common.{◌∙◌, sym, ap, subst, inr, Ok}, lemmas.Result.{err_from_is_err_and}}
use Rattle.t1_font.specs.{Canon.{canon, Fits}, FontValue.{FontValue}}
use Rattle.t1_algebra.specs.{Keep.{subset, IsOf}, Profile.{profile}}
use Rattle.t1_subset.specs.NameSets.{lent, asked}
use Rattle.t1_example.{specs.{Refusals.{LacksFirst, first_lacking}, declared.refusal.Refusal.{Refusal}}, proofs.Callers.{none_lacking, cut_fits}}
use Rattle.t1_example.proofs.subset_files.subset_file.Goals as goal

pub returns-in_err-some-clause-again : goal.returns-in_err-some-clause-again
returns-in_err-some-clause-again c =
    let p = err_from_is_err_and c.from_residual-in_err-some.result c.from_residual-in_err-some.ensures.1 in rw (p.1, p.2) (λ i k.
    none_lacking c.in_ok-font.font (lent c.args.names.now) c.in_err-some.field-0.0
    (subst (λ (j : FontValue). IsOf j (asked c.args.names.now)) (sym c.in_ok-font.ensures) i) c.in_err-some.ensures.absent)

pub returns-in_err-some-clause-absent : goal.returns-in_err-some-clause-absent
returns-in_err-some-clause-absent c =
    let p = err_from_is_err_and c.from_residual-in_err-some.result c.from_residual-in_err-some.ensures.1 in rw (p.1, p.2) (inr (
    subst (λ (j : FontValue). LacksFirst (first_lacking j (lent c.args.names.now)) (Refusal.Subset c.in_err-some.field-0.0))
    c.in_ok-font.ensures c.in_err-some.ensures.absent))

pub returns-clause-again : goal.returns-clause-again
returns-clause-again c = λ i k.
    c.in_ok-file.ensures.again (subst (λ (j : FontValue). Fits c.args.form j)
    (sym (c.in_ok-some.ensures.ok ∙ ap (λ (j : FontValue). subset profile j (asked c.args.names.now)) c.in_ok-font.ensures))
    (cut_fits c.args.form c.args.source.now (asked c.args.names.now) k))
    ∙ ap Ok (c.in_ok-some.ensures.ok ∙ ap (λ (j : FontValue). subset profile j (asked c.args.names.now)) c.in_ok-font.ensures)

pub returns-clause-text : goal.returns-clause-text
returns-clause-text c = c.in_ok-file.ensures.canon
    ∙ ap (λ (j : FontValue). canon j c.args.form)
    (c.in_ok-some.ensures.ok ∙ ap (λ (j : FontValue). subset profile j (asked c.args.names.now)) c.in_ok-font.ensures)

pub returns-clause-present : goal.returns-clause-present
returns-clause-present c = ap (λ (j : FontValue). first_lacking j (lent c.args.names.now)) (sym c.in_ok-font.ensures) ∙ c.in_ok-some.ensures.present
