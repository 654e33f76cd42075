-- The table of glyphs.
use Rattle.std.specs.Prelude.{ℕ, List, codes}
use Rattle.t1_grammar.specs.Grammar.{Grammar, ◌>>◌}
use Rattle.t1_bytes.specs.White.{white}
use Rattle.t1_text.specs.{declared.dialect.Spacing.TheVariants.{White}, Words.{keyword, next_name}, Entry.{Entry, entry}}

-- a glyph by its name
abbrev pub Glyph : Type 0
Glyph = Entry (List ℕ)

-- an entry of a table with this lenIV
abbrev pub glyph : ℕ → Grammar Glyph
glyph iv = entry (next_name White) iv

-- the word that closes the table
unfoldable pub glyphs_end : Grammar (List ℕ)
glyphs_end = do
  white
  keyword (codes "end")
