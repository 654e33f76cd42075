use Rattle.std.proofs.Common.{◌≡◌, drop}
use Rattle.t1_text.proofs.FontTests.{behind_words}
use Rattle.t1_text.proofs.font_test.tokens_at.Given as goal

abbrev pub invariant-words : goal.invariant-words
invariant-words l = behind_words (drop l.word-index l.words) l.rest ≡ behind_words l.words l.initial.rest
