-- What is mended of a file that spells a font widely: the rules by which alone it can be read, and the test that its head loses.
use Rattle.std.specs.{Prelude.{◌≡◌, ◌↔◌, ℕ, List, [], ◌∷◌, ◌++◌, codes, Option, Some, None, Result, Ok, Err}, Fmt.{decimal}}
use Rattle.t1_font.specs.{declared.fault.ReadFault.{ReadFault}, declared.fault.ReadFault.TheVariants.{BadSegment, BadEncoding, BadSubrs, BadGlyphs}}
use Rattle.t1_text.specs.{declared.dialect.Dialect.{Dialect}, declared.dialect.Rule.{Rule}, Dialect.{wide, without}, FontTest.{taken_test, untested}}
use Rattle.t1_font.specs.{declared.mend.Mend.{Mend}, declared.mend.Mend.TheVariants.{CommentInEncoding, CodeCopied, ReadonlyEncoding, CommentInSubrs, TestTakenOut}}
use Rattle.t1_font.specs.{FontValue.{FontValue}, ReadFont.{font_file, read_font, read_font_widely}, Spelling.{Spells, SpellsWidely}}
use Rattle.t1_text.specs.declared.dialect.Rule.TheVariants as rules

-- ---- rules

-- where reading broke off; 0 where the fault has no place
abbrev pub place_of : ReadFault → ℕ
place_of (BadSegment at) = at
place_of (BadEncoding at) = at
place_of (BadSubrs at) = at
place_of (BadGlyphs at) = at
place_of fault = 0

-- the mend of a rule that is needed at a place
abbrev pub mend_by : Rule → ℕ → Mend
mend_by rules.EncodingComments at = CommentInEncoding at
mend_by rules.CopiedCodes at = CodeCopied at
mend_by rules.ReadonlyWord at = ReadonlyEncoding at
mend_by rules.SubrsComments at = CommentInSubrs at

-- one rule's mend, if reading without it breaks off, before what is needed beside it; else what is needed without it
abbrev pub by_reading : Rule → List Mend → List Mend → Result FontValue ReadFault → List Mend
by_reading r without beside (Ok f) = without
by_reading r without beside (Err e) = mend_by r (place_of e) ∷ beside

-- of these rules those that a file needs, each read without those before it that are not needed
abbrev pub needed : List ℕ → Dialect → List Rule → List Mend
needed file d [] = []
needed file d (r ∷ rs) = by_reading r (needed file (without r d) rs) (needed file d rs) ((font_file (without r d) file).read)

abbrev pub all_rules : List Rule
all_rules = rules.EncodingComments ∷ rules.CopiedCodes ∷ rules.ReadonlyWord ∷ rules.SubrsComments ∷ []

-- the mends by rules of a file that spells a font widely: none where it spells it anyhow
abbrev pub mends_by_rules : List ℕ → Result FontValue ReadFault → List Mend
mends_by_rules file (Ok f) = []
mends_by_rules file (Err e) = needed file wide all_rules

-- ---- the test

-- where the test stands that the head of a font loses which was read
abbrev pub test_in : Result FontValue ReadFault → Result (Option ℕ) ReadFault
test_in (Ok f) = Ok (taken_test f.shell.head)
test_in (Err e) = Err e

-- the mend of that test
abbrev pub mends_by_test : Option ℕ → List Mend
mends_by_test None = []
mends_by_test (Some at) = TestTakenOut at ∷ []

-- ---- both

-- the mends of a file that was read widely, or its fault
abbrev pub mends_in : List ℕ → Result FontValue ReadFault → Result (List Mend) ReadFault
mends_in file (Ok f) = Ok (mends_by_rules file (read_font file) ++ mends_by_test (taken_test f.shell.head))
mends_in file (Err e) = Err e

-- the mends of a file that spells a font widely, or the first fault of one that doesn't
abbrev pub mends_of : List ℕ → Result (List Mend) ReadFault
mends_of file = mends_in file (read_font_widely file)

-- what is printed of a mend
abbrev pub mend_text : Mend → List ℕ
mend_text (CommentInEncoding at) = codes "comment in Encoding at " ++ decimal at
mend_text (CodeCopied at) = codes "code copied at " ++ decimal at
mend_text (ReadonlyEncoding at) = codes "readonly Encoding at " ++ decimal at
mend_text (CommentInSubrs at) = codes "comment in Subrs at " ++ decimal at
mend_text (TestTakenOut at) = codes "test of FontDirectory taken out at " ++ decimal at

-- ---- laws, each the contract of a function in `laws`

-- a file that spells a font widely needs no rule exactly if it spells it anyhow
abbrev pub NeedsNoRule : Type 0
NeedsNoRule = (file : List ℕ) (f : FontValue) → SpellsWidely file f → (mends_by_rules file (read_font file) ≡ []) ↔ Spells file f

-- a head has no test to mend exactly if it is not changed
abbrev pub TellsTheTest : Type 0
TellsTheTest = (head : List ℕ) → (taken_test head ≡ None) ↔ (untested head ≡ head)
