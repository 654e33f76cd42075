-- Tags of subsets: six capitals and `+` before the name of a font (ISO 32000-1, 9.6.4), and texts without them.
use Rattle.std.specs.{Prelude.{ℕ, zero, suc, ◌-◌, ◌&&◌, not, nat_le, nat_lt, Bool, List, length, take, codes, Option, Some, None, is_some, if◌then◌else◌}, List.{list_all}}
use Rattle.std.specs.Option.{option_and_then, option_map}
use Rattle.std.proofs.Common.{ap}
use Rattle.t1_grammar.specs.Grammar.{Grammar, ◌>>◌, that, count, fixed, first, choice, Begins}
use Rattle.t1_bytes.specs.White.{white}
use Rattle.t1_text.specs.{Words.{is_regular, regular_comes}, Rewriting.{Piece, parted, rewritten}}

-- A to Z
abbrev pub is_capital : ℕ → Bool
is_capital b = nat_le 65 b && nat_le b 90

-- six capitals and `+`
unfoldable pub tag : Grammar (List ℕ)
tag = do
  that (list_all is_capital) (count 6)
  fixed (codes "+")

-- what stands before the name of a font: `/FontName`, white space and a slash
unfoldable pub name_marker : Grammar (List ℕ)
name_marker = do
  fixed (codes "/FontName")
  white
  fixed (codes "/")

-- where a tag is read, f of what stands behind it; else the text
abbrev pub past_tag : (List ℕ → List ℕ) → List ℕ → Option (List ℕ × List ℕ) → List ℕ
past_tag f text None = text
past_tag f text (Some x) = f x.1

-- a text without the tags, at most n of them, that it begins with
unfoldable pub behind_tags : ℕ → List ℕ → List ℕ
behind_tags zero text = text
behind_tags (suc n) text = past_tag (behind_tags n) text (tag.read text)

-- a text without the tags that it begins with
abbrev pub untagged : List ℕ → List ℕ
untagged text = behind_tags (length text) text

-- ---- the name of a font

-- the name behind the first `/FontName`, white space and a slash
abbrev pub name_in : List ℕ → Option (List ℕ)
name_in text = option_map (λ x. (parted is_regular x.1).0) ((first name_marker).read text)

-- the name of the font of a clear text, around whose Encoding stand these two: that of the first, or else of the second
abbrev pub font_name : List ℕ × List ℕ → Option (List ℕ)
font_name x = choice (name_in x.0) (name_in x.1)

-- tags, and behind them a name
abbrev pub is_tagged : List ℕ → Bool
is_tagged name = nat_lt 0 (length (untagged name)) && nat_lt (length (untagged name)) (length name)

-- a name with tags
abbrev pub if_tagged : List ℕ → Option (List ℕ)
if_tagged name = if is_tagged name then Some name else None

-- the font's name, if it has tags
abbrev pub tagged_name : List ℕ × List ℕ → Option (List ℕ)
tagged_name x = option_and_then if_tagged (font_name x)

-- the bytes of a text before its name, and those behind the name
abbrev pub around_name : List ℕ → Option (List ℕ × List ℕ)
around_name text = option_map (λ x. (take (length text - length x.1) text, (parted is_regular x.1).1)) ((first name_marker).read text)

-- ---- texts without it

-- a word that begins with this name loses its tags, and any other word stays
abbrev pub renamed : List ℕ → List ℕ → List ℕ
renamed name word = if is_some ((fixed name).read word) then untagged word else word

-- each word that begins with this name loses its tags; other words, and what stands between words, stay
abbrev pub untagged_piece : List ℕ → Piece
untagged_piece name text =
    if regular_comes text then (renamed name (parted is_regular text).0, (parted is_regular text).1) else parted (λ b. not (is_regular b)) text

-- a text in which this name has lost its tags wherever a word begins with it
abbrev pub text_untagged : List ℕ → List ℕ → List ℕ
text_untagged name text = rewritten (untagged_piece name) text

-- both texts around the Encoding so
abbrev pub both_untagged : Option (List ℕ) → List ℕ × List ℕ → List ℕ × List ℕ
both_untagged None x = x
both_untagged (Some name) x = (text_untagged name x.0, text_untagged name x.1)

-- ---- the text that the marker begins with

pub name_begins : Begins (codes "/FontName") name_marker
unfolding name_marker
name_begins bytes none = ap (option_and_then _) none
