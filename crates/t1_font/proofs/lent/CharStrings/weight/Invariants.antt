use Rattle.std.specs.FinMap as fin
use Rattle.t1_font.{specs.FontValue.{glyph_weight}, proofs.Weights.{Summing}}
use Rattle.t1_font.proofs.lent.CharStrings.weight.Given as goal

abbrev pub invariant-bodies : goal.invariant-bodies
invariant-bodies l = Summing (glyph_weight l.len_iv) (fin.entries l.self) l.before l.weight l.body-iterator
