use Rattle.std.{proofs.Common.{◌≡◌, ◌++◌}, specs.List.{flat_map}}
use Rattle.t1_font.specs.FontValue.{names_in}
use Rattle.t1_cmd.specs.FullText.{width_line}
use Rattle.t1_cmd.proofs.full.push_widths.Given as goal

abbrev pub invariant-names : goal.invariant-names
invariant-names l = l.out.items ++ flat_map (width_line l.font) l.name-iterator ≡ l.initial.out.items ++ flat_map (width_line l.font) (names_in l.font.glyphs)
