-- What normalizing changes in the texts of a font, word by word: white space, lines that number the font, in comments too, the tags of its name, and the
-- numbers of its box. Every other word stays, in its place: so FontMatrix, PaintType, lenIV, BlueValues, StdHW and every other entry are what they were.
use Rattle.std.specs.{Prelude.{◌≡◌, ◌⊎◌, ℕ, List, Option, None}, Option.{option_map}}
use Rattle.t1_font.specs.{FontValue.{Shell}, NormalTexts.{both_normal, normal_texts}}
use Rattle.t1_text.specs.Tags.{tagged_name}
use Rattle.t1_font.specs.{FontBoxes.{clear_of, with_clear}, Normalizing.{raised}}
use Rattle.t1_text.specs.Renewing.{words, TextRenews, SameButNumbers, SameButName}

-- ---- texts of a font

-- The texts of a shell renewed: no name loses its tags but the font's own, and that around the Encoding alone; in the texts around the glyphs white space
-- changes and nothing else; and the words of the tables, lenIV among them, stay.
pub record ShellRenews (s t : Shell) : Type 0 where
  pub name : Option (List ℕ)
  pub own : (name ≡ None) ⊎ (name ≡ tagged_name (both_normal (clear_of s)))
  pub head : TextRenews name s.head t.head
  pub clear_tail : TextRenews name s.clear_tail t.clear_tail
  pub private : TextRenews None s.private t.private
  pub middle : words t.middle ≡ words s.middle
  pub tail : words t.tail ≡ words s.tail
  pub len_iv : t.len_iv ≡ s.len_iv
  pub subrs : t.subrs ≡ s.subrs
  pub glyphs_rd : t.glyphs_rd ≡ s.glyphs_rd
  pub glyphs_def : t.glyphs_def ≡ s.glyphs_def

-- the texts of a shell with another box, and with a larger declared count of Subrs or the same
pub record BoxRenews (s t : Shell) : Type 0 where
  pub head : SameButNumbers s.head t.head
  pub clear_tail : SameButNumbers s.clear_tail t.clear_tail
  pub private : t.private ≡ s.private
  pub middle : t.middle ≡ s.middle
  pub tail : t.tail ≡ s.tail
  pub len_iv : t.len_iv ≡ s.len_iv
  pub count : ℕ
  pub subrs : t.subrs ≡ option_map (raised count) s.subrs
  pub glyphs_rd : t.glyphs_rd ≡ s.glyphs_rd
  pub glyphs_def : t.glyphs_def ≡ s.glyphs_def

-- the texts of a font that is normalized beside others: renewed, and then with the box and the declared count of all
pub record Renewed (s t : Shell) : Type 0 where
  pub between : Shell
  pub texts : ShellRenews s between
  pub box : BoxRenews between t

-- the texts of a font that is normalized beside others and then gets a name, which stands in its head
pub record RenewedAndNamed (s t : Shell) : Type 0 where
  pub between : Shell
  pub texts : Renewed s between
  pub head : SameButName between.head t.head
  pub others : t ≡ with_clear between (t.head, between.clear_tail)

-- ---- laws, each the contract of a function in `laws`

-- the texts of a shell are renewed where they are normalized
abbrev pub TextsRenewed : Type 0
TextsRenewed = (s : Shell) → ShellRenews s (normal_texts s)
