use Rattle.std.proofs.Common.{◌≡◌, ◌+◌, ◌≤◌, drop}
use Rattle.t1_font.specs.{FontValue.{total}, FontModel.{clamp}, Ranges.{glyph_at_weight}}
use Rattle.t1_font.proofs.source.glyphs_weight.Given as goal

abbrev pub invariant-glyphs : goal.invariant-glyphs
invariant-glyphs l = record {
  fits : l.weight ≤ 18446744073709551615;
  left : clamp (l.weight + total (glyph_at_weight l.len_iv) (drop l.body-index l.glyphs)) ≡ clamp (l.before + total (glyph_at_weight l.len_iv) l.glyphs);
}
