use Rattle.std.proofs.{Common.{◌≡◌, ◌∙◌, ap, sym, subst, ℕ, Vec, Global, MatchResult}, lemmas.Result.{err_from_is_err_and}}
use Rattle.t1_font.specs.{Canon.{canon}, FontValue.{FontValue}, IsFont.{IsFont}, ReadFont.{read_font}}
use Rattle.t1_text.specs.Dialect.{strict}
use Rattle.t1_font.proofs.{AnswersRight.{bytes_of_slice}, read_fonts.ReadFontLaws.{spelled_font}}
use Rattle.t1_subset.specs.NameSets.{lent, asked}
use Rattle.t1_example.{specs.{Joining.{union_subset}, Refusals.{IsMemory}}, proofs.{Callers.{readable, file_refused, drawn}, Outcomes.{file_unread, first_refused, second_refused, both_cut}}}
use Rattle.t1_example.proofs.cut_and_joined.Goals as goal

pub returns-in_err-source-clause-bytes : goal.returns-in_err-source-clause-bytes
returns-in_err-source-clause-bytes c = let p = err_from_is_err_and c.from_residual.result c.from_residual.ensures.1 in rw (p.1, p.2) (λ f k.
    file_refused c.args.file.now (asked c.args.first.now) (asked c.args.second.now) c.args.form f c.in_err-source.field-0.0 k c.in_err-source.ensures.exact)

pub returns-in_err-source-clause-draws : goal.returns-in_err-source-clause-draws
returns-in_err-source-clause-draws c = let p = err_from_is_err_and c.from_residual.result c.from_residual.ensures.1 in rw (p.1) (λ f k. tt)

pub returns-in-Err-clause-bytes : goal.returns-in-Err-clause-bytes
returns-in-Err-clause-bytes c = λ f k.
    let r = readable c.args.file.now (asked c.args.first.now) (asked c.args.second.now) c.args.form f c.in_ok-source.source k c.in_ok-source.ensures.right in
    c.in-Err.ensures.again r.first r.fits

pub returns-in_err-other-clause-bytes : goal.returns-in_err-other-clause-bytes
returns-in_err-other-clause-bytes c =
    let p = err_from_is_err_and c.from_residual-in_err-other.result c.from_residual-in_err-other.ensures.1 in rw (p.1, p.2) (λ f k.
    let r = readable c.args.file.now (asked c.args.first.now) (asked c.args.second.now) c.args.form f c.in_ok-source.source k c.in_ok-source.ensures.right in
    c.in_err-other.ensures.again r.second r.fits)

pub returns-in_err-other-clause-draws : goal.returns-in_err-other-clause-draws
returns-in_err-other-clause-draws c =
    let p = err_from_is_err_and c.from_residual-in_err-other.result c.from_residual-in_err-other.ensures.1 in rw (p.1) (λ f k. tt)

pub returns-clause-bytes : goal.returns-clause-bytes
returns-clause-bytes c = λ f k.
    let a = asked c.args.first.now in
    let b = asked c.args.second.now in
    let r = readable c.args.file.now a b c.args.form f c.in_ok-source.source k c.in_ok-source.ensures.right in
    subst (λ (j : FontValue). MatchResult c.joined.result (λ (v : Vec ℕ Global). v.items ≡ canon (union_subset j a b) c.args.form) IsMemory) r.is
    (c.joined.ensures.subsets c.in_ok-source.source a b (subst (λ (j : FontValue). IsFont j) (sym r.is)
    (spelled_font strict c.args.file.now f (bytes_of_slice c.args.file.now c.type_inv.file) k.spelled)) r.first r.second (
      ap read_font c.as_slice.ensures.value ∙ c.in-Ok.ensures.again r.first r.fits,
      ap read_font c.as_slice-2.ensures.value ∙ c.in_ok-other.ensures.again r.second r.fits,
    ))

pub returns-clause-draws : goal.returns-clause-draws
returns-clause-draws c = λ f k.
    let a = asked c.args.first.now in
    let b = asked c.args.second.now in
    let r = readable c.args.file.now a b c.args.form f c.in_ok-source.source k c.in_ok-source.ensures.right in
    drawn c.joined.result f a b c.args.form
    (spelled_font strict c.args.file.now f (bytes_of_slice c.args.file.now c.type_inv.file) k.spelled) k.first k.second k.fits (returns-clause-bytes c f k)

pub returns-in_err-source-clause-comes : goal.returns-in_err-source-clause-comes
returns-in_err-source-clause-comes c = let p = err_from_is_err_and c.from_residual.result c.from_residual.ensures.1 in rw (p.1, p.2) (
    file_unread c.in_err-source.field-0.0 (read_font c.args.file.now) (lent c.args.first.now)
    (lent c.args.second.now) c.args.form c.in_err-source.ensures.exact)

pub returns-in-Err-clause-comes : goal.returns-in-Err-clause-comes
returns-in-Err-clause-comes c =
    first_refused (read_font c.args.file.now) c.in_ok-source.source (lent c.args.first.now)
    (lent c.args.second.now) c.args.form c.in-Err.refusal c.in_ok-source.ensures.exact c.in-Err.ensures.absent

pub returns-in_err-other-clause-comes : goal.returns-in_err-other-clause-comes
returns-in_err-other-clause-comes c = let p = err_from_is_err_and c.from_residual-in_err-other.result c.from_residual-in_err-other.ensures.1 in rw (p.1, p.2) (
    second_refused (read_font c.args.file.now) c.in_ok-source.source (lent c.args.first.now)
    (lent c.args.second.now) c.args.form c.in_err-other.field-0.0 c.in_ok-source.ensures.exact c.in-Ok.ensures.present c.in_err-other.ensures.absent)

pub returns-clause-comes : goal.returns-clause-comes
returns-clause-comes c =
    both_cut (read_font c.args.file.now) c.in_ok-source.source (lent c.args.first.now)
    (lent c.args.second.now) c.args.form c.in-Ok.one.items c.in_ok-other.other.items c.joined.result
    c.in_ok-source.ensures.exact c.in-Ok.ensures.present c.in_ok-other.ensures.present c.in-Ok.ensures.text c.in_ok-other.ensures.text
    (rw (sym c.as_slice.ensures.value, sym c.as_slice-2.ensures.value) c.joined.ensures.comes)
