use Rattle.std.proofs.Common.{Bor, List, ℕ, [], ◌∙◌}
use Rattle.t1_text.proofs.FontTests.{word_read, word_absent, words_read}
use Rattle.t1_text.proofs.font_test.tokens_at.Goals as goal

-- no word
abbrev none : Bor (List ℕ)
none = record { ref_ptr = (0, 0); now = [] }

pub returns-in-None : goal.returns-in-None
returns-in-None c = word_absent c.args.words.now c.words.word-index none c.words.rest.now c.words-test.true c.in-None.ensures ∙ c.words.invariant

pub words-preserved : goal.words-preserved
words-preserved c =
    word_read c.args.words.now c.words.word-index none c.words.rest.now c.words-test.true c.in-Some.behind.now c.in-Some.ensures ∙ c.words.invariant

pub returns : goal.returns
returns c = words_read c.args.words.now c.words.word-index c.words.rest.now c.words-test.false ∙ c.words.invariant
