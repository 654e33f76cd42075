-- Font texts: fonts whose cipher is hexadecimal, as documents have them.
use Rattle.std.specs.{Prelude.{ℕ, ◌-◌, ◌==◌, Bool, true, false, List, ◌++◌, length, take, get_or, codes, Option, Some, None, Result, Ok, Err, if◌then◌else◌}, Option.{option_and_then, option_map}}
use Rattle.t1_grammar.specs.Grammar.{Grammar, ◌>>◌, that, fixed, first}
use Rattle.t1_bytes.specs.{White.{has_bytes}, Cipher.{private_cipher}, Texts.{hex_lines, zero_lines}, Eexec.{eexec_marker, hex_text}}
use Rattle.t1_font.specs.{declared.fault.ReadFault.{ReadFault}, declared.fault.ReadFault.TheVariants.{Memory}, FontValue.{FontValue}, Canon.{canon_clear, canon_private}, ReadFont.{read_font_widely}}
use Rattle.t1_text.specs.Tags.{name_in}

-- ---- where it ends

-- the last byte is a `c`
abbrev pub ends_with_c : List ℕ → Bool
ends_with_c digits = get_or digits (length digits - 1) 0 == 99

-- `%!`, the clear text through the first marker, the hexadecimal digits of a cipher through the `c` of `cleartomark`, and the rest of that word
unfoldable pub font_shape : Grammar (List ℕ)
font_shape = do
  fixed (codes "%!")
  first eexec_marker
  that ends_with_c hex_text
  fixed (codes "leartomark")

-- bytes that begin with such a text: that text, and what follows it
abbrev pub parted_at : List ℕ → List ℕ × List ℕ → List ℕ × List ℕ
parted_at bytes x = (take (length bytes - length x.1) bytes, x.1)

-- ---- its font

-- a name that has bytes
abbrev pub if_any : List ℕ → Option (List ℕ)
if_any name = if has_bytes name then Some name else None

-- the name of what was read: it stands behind the first `/FontName`, white space and a slash of the font's head
abbrev pub name_read : Result FontValue ReadFault → Option (List ℕ)
name_read (Ok font) = option_and_then if_any (name_in font.shell.head)
name_read (Err fault) = None

-- the name of the font that a text spells widely, if it spells one that has a name
unfoldable pub spelled_name : List ℕ → Option (List ℕ)
spelled_name text = name_read (read_font_widely text)

-- a growth was refused
abbrev pub is_memory : ReadFault → Bool
is_memory Memory = true
is_memory fault = false

-- the name in so many bytes at the front of a text, if it has bytes
abbrev pub name_within : List ℕ → Option ℕ → Option (List ℕ)
name_within text head = option_and_then (λ n. option_and_then if_any (name_in (take n text))) head

-- a font text, the name of its font, and the bytes that follow it
pub record FontText : Type 0 where
  pub name : List ℕ
  pub text : List ℕ
  pub rest : List ℕ

-- a text and what follows it, if it spells a font that has a name
abbrev pub if_font : List ℕ × List ℕ → Option FontText
if_font x = option_map (λ name. record { name = name; text = x.0; rest = x.1 }) (spelled_name x.0)

-- the font text that bytes begin with, and what follows it
unfoldable pub font_in : List ℕ → Option FontText
font_in bytes = option_and_then (λ x. if_font (parted_at bytes x)) (font_shape.read bytes)

-- ---- canonical fonts

-- the canonical font text of a font: its PFA without the line end behind `cleartomark`
abbrev pub canon_text : FontValue → List ℕ
canon_text f = canon_clear f ++ (hex_lines (private_cipher (canon_private f)) ++ (zero_lines 8 ++ codes "cleartomark"))
