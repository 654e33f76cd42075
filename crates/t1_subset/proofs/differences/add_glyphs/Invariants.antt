use Rattle.t1_font.specs.FontValue.{names_in}
use Rattle.t1_algebra.specs.Conflicts.{GlyphDiffers, glyph_clashes}
use Rattle.t1_subset.proofs.Telling.{Adding, each_told}
use Rattle.t1_subset.proofs.differences.add_glyphs.Given as goal

abbrev pub invariant-names : goal.invariant-names
invariant-names l = Adding l.initial.all.items l.all.items
    (each_told (glyph_clashes l.own l.other) GlyphDiffers (names_in l.own.glyphs))
    (each_told (glyph_clashes l.own l.other) GlyphDiffers l.name-iterator)
