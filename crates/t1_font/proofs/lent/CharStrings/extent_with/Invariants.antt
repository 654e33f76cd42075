use Rattle.std.proofs.Common.{length}
use Rattle.t1_font.{specs.{FontValue.{glyph_weight}, Maps.{merged}}, proofs.Weights.{Summing, Counting}}
use Rattle.std.specs.FinMap as fin
use Rattle.t1_font.proofs.lent.CharStrings.extent_with.Given as goal

abbrev pub invariant-bodies : goal.invariant-bodies
invariant-bodies l =
    let both = fin.entries (merged l.fn.self l.fn.other) in
    Summing (glyph_weight l.len_iv) both l.before l.weight l.glyph-iterator × Counting (length both) l.count l.glyph-iterator
