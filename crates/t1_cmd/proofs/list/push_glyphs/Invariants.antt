use Rattle.std.{proofs.Common.{◌≡◌, ◌++◌}, specs.{List.{flat_map}, FinMap.{entries}}}
use Rattle.t1_cmd.specs.ListText.{glyph_length_line}
use Rattle.t1_cmd.proofs.list.push_glyphs.Given as goal

abbrev pub invariant-glyphs : goal.invariant-glyphs
invariant-glyphs l = l.out.items ++ flat_map (λ e. glyph_length_line e.0 e.1) l.name-iterator
    ≡ l.initial.out.items ++ flat_map (λ e. glyph_length_line e.0 e.1) (entries l.font.glyphs)
