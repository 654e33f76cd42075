-- By which rules a font may be spelled, beside those of the standard.
use Rattle.std.specs.Prelude.{ℕ, ◌==◌, ◌||◌, Bool, true, false, List, Option, Some, None, if◌then◌else◌}
use Rattle.t1_grammar.specs.{Grammar.{Grammar, that}, Scans.{scan}}
use Rattle.t1_text.specs.{declared.dialect.Spacing.{Spacing}, declared.dialect.Spacing.TheVariants.{White, Comments}, declared.dialect.Dialect.{Dialect}, declared.dialect.Rule.{Rule}}
use Rattle.t1_text.specs.declared.dialect.Rule.TheVariants.{EncodingComments, CopiedCodes, ReadonlyWord, SubrsComments}
use Rattle.t1_bytes.specs.White.{is_white, white, has_bytes, gap}

-- LF, FF or CR
abbrev pub ends_comment : ℕ → Bool
ends_comment b = b == 10 || b == 12 || b == 13

-- between words, or in a comment
pub data Between : Type 0 where
  Blank : Between
  Comment : Between

-- A `%` begins a comment, and the end of a line ends it. Between words, no other byte goes on but white space.
abbrev pub spacing : Between → ℕ → Option Between
spacing Blank b = if is_white b then Some Blank else if b == 37 then Some Comment else None
spacing Comment b = if ends_comment b then Some Blank else Some Comment

-- white space and comments, as far as they go
unfoldable pub white_and_comments : Grammar (List ℕ)
white_and_comments = scan spacing Blank

-- what may stand between two words; it may be nothing
abbrev pub white_in : Spacing → Grammar (List ℕ)
white_in White = white
white_in Comments = white_and_comments

-- what stands between two words that nothing else keeps apart
abbrev pub gap_in : Spacing → Grammar (List ℕ)
gap_in White = gap
gap_in Comments = that has_bytes white_and_comments

-- ---- the rules together

-- none of them
abbrev pub strict : Dialect
strict = record { encoding = White; copies = false; readonly = false; subrs = White }

-- all of them
abbrev pub wide : Dialect
wide = record { encoding = Comments; copies = true; readonly = true; subrs = Comments }

-- without one of them
abbrev pub without : Rule → Dialect → Dialect
without EncodingComments d = record { encoding = White; copies = d.copies; readonly = d.readonly; subrs = d.subrs }
without CopiedCodes d = record { encoding = d.encoding; copies = false; readonly = d.readonly; subrs = d.subrs }
without ReadonlyWord d = record { encoding = d.encoding; copies = d.copies; readonly = false; subrs = d.subrs }
without SubrsComments d = record { encoding = d.encoding; copies = d.copies; readonly = d.readonly; subrs = White }
