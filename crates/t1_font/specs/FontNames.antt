-- Fonts under another name: what stands behind the first `/FontName`, white space and a slash of the head (Adobe Type 1 Font Format 1.1, chapter 2). It is
-- the key by which a document finds the font.
use Rattle.std.specs.Prelude.{ℕ, ◌&&◌, nat_le, Bool, List, ◌++◌, map, Option, Some, None, if◌then◌else◌}
use Rattle.t1_font.specs.{FontValue.{FontValue, Shell, weight, weight_limit}, NormalTexts.{both_fit}, FontBoxes.{with_texts}}
use Rattle.t1_font.specs.Normalizing.{normalized_shells}
use Rattle.t1_text.specs.Tags.{around_name}

-- these with a name between them; where there are none, the text stays
abbrev pub name_between : List ℕ → List ℕ → Option (List ℕ × List ℕ) → List ℕ
name_between name text None = text
name_between name text (Some x) = x.0 ++ name ++ x.1

-- a text with this name in place of its own, if it has one
abbrev pub text_named : List ℕ → List ℕ → List ℕ
text_named name text = name_between name text (around_name text)

-- the two texts around the Encoding, the first with this name
abbrev pub clear_named : List ℕ → Shell → List ℕ × List ℕ
clear_named name s = (text_named name s.head, s.clear_tail)

-- a font with this name in its head
abbrev pub font_named : List ℕ → FontValue → FontValue
font_named name f = with_texts f (clear_named name f.shell)

-- a font can have this name: its texts are then texts of a font, and it is within the weight limit
abbrev pub can_be_named : List ℕ → FontValue → Bool
can_be_named name f = both_fit (clear_named name f.shell) && nat_le (weight (font_named name f)) weight_limit

-- a font with this name, if it can have it
abbrev pub named : List ℕ → FontValue → FontValue
named name f = if can_be_named name f then font_named name f else f

-- fonts with normalized texts and one FontBBox, each with this name if it can have it
abbrev pub normalized_named : List ℕ → List FontValue → List FontValue
normalized_named name fs = map (named name) (normalized_shells fs)
