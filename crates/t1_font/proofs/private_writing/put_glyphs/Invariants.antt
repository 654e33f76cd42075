use Rattle.std.proofs.Common.{◌≡◌, ◌++◌, map}
use Rattle.t1_font.specs.{Writing.{glyphs_text, glyphs_part}, Canon.{glyph_entry}}
use Rattle.std.specs.FinMap as fin
use Rattle.t1_font.proofs.private_writing.put_glyphs.Given as goal

abbrev pub invariant-glyphs : goal.invariant-glyphs
invariant-glyphs l =
    l.out ++ glyphs_text (map (glyph_entry l.shell) l.name-iterator) ≡ l.fn.out ++ glyphs_part (map (glyph_entry l.shell) (fin.entries l.glyphs))
