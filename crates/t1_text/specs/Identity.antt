-- Lines that number a font: UniqueID and XUID (Adobe Type 1 Font Format 1.1, chapters 2 and 5; PostScript Language Reference, 5.6).
-- A printer may keep what it drew of a font under its number, so a font that cuts of another come to has no number.
use Rattle.std.{specs.{Prelude.{ℕ, ◌==◌, ◌||◌, not, Bool, List, length, [], ◌∷◌, ◌++◌, codes, Option, Some, None, is_some}, Option.{option_and_then}}, proofs.Common.{ap}}
use Rattle.t1_grammar.specs.Grammar.{Grammar, pure, ◌>>◌, before, fixed, run, either, may_be, Begins}
use Rattle.t1_text.specs.{Words.{is_digit, keyword, decimal}, Rewriting.{Piece, parted, rewritten}}

-- a blank, or none
unfoldable pub one_blank : Grammar (List ℕ)
one_blank = may_be (fixed (codes " "))

-- `/UniqueID` and a decimal
unfoldable pub unique_id : Grammar (Unit {0})
unique_id = do
  fixed (codes "/UniqueID ")
  decimal
  pure tt

-- a digit or a blank
abbrev pub is_digit_or_blank : ℕ → Bool
is_digit_or_blank b = is_digit b || b == 32

-- `/XUID` and numbers in brackets
unfoldable pub extended_id : Grammar (Unit {0})
extended_id = do
  fixed (codes "/XUID")
  one_blank
  fixed (codes "[")
  run is_digit_or_blank
  fixed (codes "]")
  pure tt

-- `readonly` or `noaccess`, and a blank
unfoldable pub access : Grammar (List ℕ)
access = do
  either (keyword (codes "readonly")) (keyword (codes "noaccess"))
  fixed (codes " ")

-- `def`, or a word of the font's own that is short for it
unfoldable pub defining : Grammar (List ℕ)
defining = either (keyword (codes "def")) (either (keyword (codes "ND")) (keyword (codes "|-")))

-- the text ends, as it does before the marker of a table; or a name, a comment or the end of the dictionary comes
abbrev pub goes_on : List ℕ → Bool
goes_on text = length text == 0 || is_some ((fixed (codes "/")).read text) || is_some ((fixed (codes "%")).read text)
    || is_some ((fixed (codes "currentdict")).read text)

-- a line that numbers its font, with the LF that ends it, before what goes on with the dictionary or ends it
unfoldable pub identity_line : Grammar (Unit {0})
identity_line = do
  either unique_id extended_id
  one_blank
  may_be access
  defining
  fixed (10 ∷ [])
  before goes_on

-- a comment that would be such a line without its `%`
unfoldable pub identity_comment : Grammar (Unit {0})
identity_comment = do
  fixed (codes "%")
  identity_line

-- what stands before a line's end, with the LF if there is one, and what stands behind it
abbrev pub with_end : List ℕ → List ℕ → List ℕ × List ℕ
with_end body [] = (body, [])
with_end body (b ∷ rest) = (body ++ b ∷ [], rest)

-- a byte other than LF
abbrev pub is_in_line : ℕ → Bool
is_in_line b = not (b == 10)

-- a line, with the LF that ends it unless the text ends, and what stands behind it
abbrev pub first_line : List ℕ → List ℕ × List ℕ
first_line text = with_end (parted is_in_line text).0 (parted is_in_line text).1

-- a line that numbers the font goes, and any other stays
abbrev pub without_line : List ℕ → Option (Unit {0} × List ℕ) → List ℕ × List ℕ
without_line text (Some x) = ([], x.1)
without_line text None = first_line text

-- of a comment that would number the font its `%` stays and no more, as cairo leaves it
abbrev pub without_comment : List ℕ → Option (Unit {0} × List ℕ) → List ℕ × List ℕ
without_comment text (Some x) = (codes "%\n", x.1)
without_comment text None = without_line text (identity_line.read text)

unfoldable pub unnumbered_piece : Piece
unnumbered_piece text = without_comment text (identity_comment.read text)

-- a text without the lines that number its font, in comments too
abbrev pub unnumbered : List ℕ → List ℕ
unnumbered text = rewritten unnumbered_piece text

-- ---- the text that each begins with

pub unique_begins : Begins (codes "/UniqueID ") unique_id
unfolding unique_id
unique_begins bytes none = ap (option_and_then _) none

pub extended_begins : Begins (codes "/XUID") extended_id
unfolding extended_id
extended_begins bytes none = ap (option_and_then _) none
