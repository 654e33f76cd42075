use Rattle.std.proofs.Common.{◌∙◌, ap, sym, List, ℕ, Option, Some}
use Rattle.t1_cmd.{specs.CodeLists.{codes_listed}, proofs.CodeLemmas.{with_codes, shorter, word_more, word_last, word_bad, last_bad}}
use Rattle.t1_cmd.proofs.code_lists.read_codes.Goals as goal

pub returns-in_default-ends : goal.returns-in_default-ends
returns-in_default-ends c =
    word_bad c.words.codes.items c.words.rest.now (c.in-Some.word.now, c.in-Some.behind.now) (sym c.in-Some.ensures) (sym c.in_default-ends.ensures)
    ∙ c.words.invariant

pub words-smaller : goal.words-smaller
words-smaller c = shorter 44 c.words.rest.now (c.in-Some.word.now, c.in-Some.behind.now) (sym c.in-Some.ensures)

pub words-preserved : goal.words-preserved
words-preserved c =
    ap (λ (ys : List ℕ). with_codes ys (codes_listed c.in-Some.behind.now)) c.in_ok-push_codes.ensures
    ∙ (word_more c.words.codes.items c.words.rest.now (c.in-Some.word.now, c.in-Some.behind.now) (c.in-Some-ends.first, c.in-Some-ends.last)
    (sym c.in-Some.ensures) (sym c.in-Some-ends.ensures)
    ∙ c.words.invariant)

pub returns-in_default-ends-2 : goal.returns-in_default-ends-2
returns-in_default-ends-2 c = last_bad c.words.codes.items c.words.rest.now (sym c.in_default.ensures) (sym c.in_default-ends-2.ensures) ∙ c.words.invariant

pub returns : goal.returns
returns c =
    ap {B = Option (List ℕ)} (λ (ys : List ℕ). Some ys) c.in_ok-push_codes-2.ensures
    ∙ (word_last c.words.codes.items c.words.rest.now (c.in-Some-ends-2.first, c.in-Some-ends-2.last) (sym c.in_default.ensures) (sym c.in-Some-ends-2.ensures)
    ∙ c.words.invariant)
