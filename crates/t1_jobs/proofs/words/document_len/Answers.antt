use Rattle.std.proofs.Common.{drop, ◌≤◌, ◌-◌, length, arith, sym, ap, ◌∙◌, List, ℕ}
use Rattle.t1_jobs.specs.Words.{may_end, another_begins, behind_words}
use Rattle.t1_bytes.specs.White.{has_bytes}
use Rattle.t1_jobs.proofs.LenLemmas.{Behind, byte_passed, ended, broken, words_passed, through, none_has, some_has}
use Rattle.t1_jobs.proofs.words.document_len.Goals as goal

pub returns-then-is_empty-clause-exact : goal.returns-then-is_empty-clause-exact
returns-then-is_empty-clause-exact c =
    let here = c.split_at.ensures.back in
    let behind = c.behind_words-behind.ensures ∙ ap behind_words here in
    sym (ended c.args.text.now c.places.at c.places-test.true (ap may_end (sym here) ∙ sym c.if-not-may_end.ensures)
    (ap has_bytes (sym behind) ∙ none_has c.behind_words-behind.result.now (sym c.if-is_empty.ensures)) c.places.invariant)

pub returns-then-another_begins-clause-exact : goal.returns-then-another_begins-clause-exact
returns-then-another_begins-clause-exact c =
    let here = c.split_at.ensures.back in
    let behind = c.behind_words-behind.ensures ∙ ap behind_words here in
    let both = ap (λ (t : List ℕ). another_begins t c.behind_words-behind.result.now) here
    ∙ ap (λ (t : List ℕ). another_begins (drop c.places.at c.args.text.now) t) behind in
    sym (broken c.args.text.now c.places.at c.places-test.true (ap may_end (sym here) ∙ sym c.if-not-may_end.ensures)
    (ap has_bytes (sym behind) ∙ some_has c.behind_words-behind.result.now (sym c.if-is_empty.ensures))
    (sym both ∙ sym c.if-another_begins.ensures) c.places.invariant)

pub returns-clause-exact : goal.returns-clause-exact
returns-clause-exact c = sym (through c.args.text.now c.places.at (omega (arith, c.places-test.false)) c.places.invariant)

pub places-preserved-then-not-may_end : goal.places-preserved-then-not-may_end
places-preserved-then-not-may_end c =
    c.next_end-at-then-not-may_end.ensures.passed
    (byte_passed c.args.text.now c.places.at c.places-test.true (ap may_end (sym c.split_at.ensures.back) ∙ sym c.if-not-may_end.ensures)
    c.places.invariant)

passed : (c : goal.Else-another_begins) → (length c.behind_words-behind.result.now ≤ length c.args.text.now)
    × Behind c.args.text.now c.places.at (length c.args.text.now - length c.behind_words-behind.result.now)
passed c =
    let here = c.split_at.ensures.back in
    words_passed c.args.text.now c.behind_words-behind.result.now c.places.at c.places-test.true (c.behind_words-behind.ensures ∙ ap behind_words here)
    (ap may_end (sym here) ∙ sym c.if-not-may_end.ensures) (some_has c.behind_words-behind.result.now (sym c.if-is_empty.ensures))
    (ap (λ (t : List ℕ). another_begins t c.behind_words-behind.result.now) (sym here) ∙ sym c.if-another_begins.ensures) c.places.invariant

passed_on : (c : goal.After-next_end-at-in-places) → (length c.behind_words-behind.result.now ≤ length c.args.text.now)
    × Behind c.args.text.now c.places.at (length c.args.text.now - length c.behind_words-behind.result.now)
passed_on c =
    let here = c.split_at.ensures.back in
    words_passed c.args.text.now c.behind_words-behind.result.now c.places.at c.places-test.true (c.behind_words-behind.ensures ∙ ap behind_words here)
    (ap may_end (sym here) ∙ sym c.if-not-may_end.ensures) (some_has c.behind_words-behind.result.now (sym c.if-is_empty.ensures))
    (ap (λ (t : List ℕ). another_begins t c.behind_words-behind.result.now) (sym here) ∙ sym c.if-another_begins.ensures) c.places.invariant

pub overflow_sub-text : goal.overflow_sub-text
overflow_sub-text c = (passed c).0

pub places-smaller : goal.places-smaller
places-smaller c = let p = (passed_on c).1 in omega (arith, p.within, p.more, c.places-test.true, c.next_end-at-in-places.ensures.further)

pub places-preserved : goal.places-preserved
places-preserved c = c.next_end-at-in-places.ensures.passed (passed_on c).1.passed
