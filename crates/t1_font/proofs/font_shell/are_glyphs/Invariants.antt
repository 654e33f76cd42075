use Rattle.std.specs.FinMap as fin
use Rattle.t1_font.proofs.EachEntry.{AsLeft}
use Rattle.t1_text.specs.{Words.{name_limit}, FontWords.{IsWord, IsCharstring}}
use Rattle.t1_font.proofs.font_shell.are_glyphs.Given as goal

abbrev pub invariant-glyphs : goal.invariant-glyphs
invariant-glyphs l = AsLeft (λ e. IsWord name_limit e.0 × IsCharstring l.len_iv e.1) (fin.entries l.glyphs) l.name-iterator
