-- Heads without the test whether their font was loaded before, which asks PostScript's FontDirectory for it.
use Rattle.std.specs.Prelude.{◌≡◌, ℕ, ◌==◌, ◌&&◌, ◌||◌, not, Bool, false, List, [], ◌∷◌, ◌++◌, length, drop, codes, Option, Some, None, is_some, if◌then◌else◌}
use Rattle.std.{specs.Str.{bytes_eq}, proofs.Common.{refl}}
use Rattle.t1_grammar.specs.{Grammar.{Grammar, pure, ◌>>=◌, ◌>>◌, that, before, count, fixed, either, first, Begins}, Places.{occurs}}
use Rattle.t1_bytes.specs.{White.{white}, FlatText.{starts_segment}, Eexec.{eexec_marker}}
use Rattle.t1_text.specs.{declared.dialect.Spacing.TheVariants.{White}, Words.{is_regular, regular_comes, keyword, decimal, next_name}, Markers.{encoding_marker}}

-- ---- tokens

-- an opening or a closing brace
abbrev pub is_brace : List ℕ → Bool
is_brace w = bytes_eq (codes "{") w || bytes_eq (codes "}") w

-- a token ends before this text: a brace before any, a word or a literal where no regular byte comes
abbrev pub ends_before : List ℕ → List ℕ → Bool
ends_before w text = is_brace w || not (regular_comes text)

-- a token behind any white space
unfoldable pub token : List ℕ → Grammar (Unit {0})
token w = do
  white
  fixed w
  before (ends_before w)

-- tokens, one behind another
unfoldable pub test_tokens : List (List ℕ) → Grammar (Unit {0})
test_tokens [] = pure tt
test_tokens (w ∷ ws) = do
  token w
  test_tokens ws

-- a slash and this name behind any white space
unfoldable pub literal : List ℕ → Grammar (List ℕ)
literal name = do
  white
  fixed (codes "/")
  keyword name

-- ---- the test

-- known {
abbrev pub if_known : List (List ℕ)
if_known = codes "known" ∷ codes "{" ∷ []

-- known pop false {
abbrev pub if_false : List (List ℕ)
if_false = codes "known" ∷ codes "pop" ∷ codes "false" ∷ codes "{" ∷ []

-- findfont dup /UniqueID
abbrev pub ask_number : List (List ℕ)
ask_number = codes "findfont" ∷ codes "dup" ∷ codes "/UniqueID" ∷ []

-- dup /UniqueID get
abbrev pub get_number : List (List ℕ)
get_number = codes "dup" ∷ codes "/UniqueID" ∷ codes "get" ∷ []

-- eq exch /FontType get 1 eq and } { pop false } ifelse
abbrev pub is_same : List (List ℕ)
is_same =
    codes "eq" ∷ codes "exch" ∷ codes "/FontType" ∷ codes "get" ∷ codes "1" ∷ codes "eq" ∷ codes "and" ∷ codes "}"
    ∷ codes "{" ∷ codes "pop" ∷ codes "false" ∷ codes "}" ∷ codes "ifelse" ∷ []

-- { save true } { false } ifelse } { false } ifelse
abbrev pub then_save : List (List ℕ)
then_save =
    codes "{" ∷ codes "save" ∷ codes "true" ∷ codes "}" ∷ codes "{" ∷ codes "false" ∷ codes "}" ∷ codes "ifelse" ∷ codes "}"
    ∷ codes "{" ∷ codes "false" ∷ codes "}" ∷ codes "ifelse" ∷ []

-- FontDirectory /NAME known { /NAME
unfoldable pub known_name : Grammar (List ℕ)
known_name = do
  fixed (codes "FontDirectory")
  name ← next_name White
  test_tokens if_known
  literal name

-- known {, or known pop false {, with which cairo makes the answer false
unfoldable pub if_numbered : Grammar (Unit {0})
if_numbered = either (test_tokens if_known) (test_tokens if_false)

-- findfont dup /UniqueID known { dup /UniqueID get NUMBER
unfoldable pub known_number : Grammar ℕ
known_number = do
  test_tokens ask_number
  if_numbered
  test_tokens get_number
  white
  decimal

-- FontDirectory /NAME known { /NAME findfont dup /UniqueID known { dup /UniqueID get NUMBER eq exch /FontType get 1 eq and }
-- { pop false } ifelse { save true } { false } ifelse } { false } ifelse, with known pop false { in place of the second known {, or not
unfoldable pub font_test : Grammar (Unit {0})
font_test = do
  known_name
  known_number
  test_tokens is_same
  test_tokens then_save

-- a test may follow this byte: white space or a delimiter, but no slash, with which its first word would be a literal
abbrev pub precedes_test : ℕ → Bool
precedes_test b = not (is_regular b) && not (b == 47)

-- such a byte comes
abbrev pub parting_comes : List ℕ → Bool
parting_comes [] = false
parting_comes (b ∷ bs) = precedes_test b

-- a byte that a test may follow, and the test behind it; its value is that byte
unfoldable pub apart_test : Grammar (List ℕ)
apart_test = do
  break ← that parting_comes (count 1)
  font_test
  pure break

-- ---- heads without it

-- the first test of a head; a line's end is thought to stand before the head
abbrev pub found_test : List ℕ → Option ((List ℕ × List ℕ) × List ℕ)
found_test head = (first apart_test).read (10 ∷ head)

-- what stands around a test that was found, without that line's end
abbrev pub around : (List ℕ × List ℕ) × List ℕ → List ℕ
around x = drop 1 (x.0.0 ++ (x.0.1 ++ x.1))

-- where a test that was found stands in its head, and what stands around it
abbrev pub place_and_around : (List ℕ × List ℕ) × List ℕ → ℕ × List ℕ
place_and_around x = (length x.0.0, around x)

-- the marker that ends the clear text, without its bytes as a value
unfoldable pub eexec_there : Grammar (Unit {0})
eexec_there = do
  eexec_marker
  pure tt

-- in a text stands a marker that ends a head, or the clear text
abbrev pub has_marker : List ℕ → Bool
has_marker text = occurs encoding_marker text || occurs eexec_there text

-- a text is a head without a test: none is found in it, and no marker where a slash stands behind it
abbrev pub is_untested : List ℕ → Bool
is_untested text = not (is_some (found_test text)) && not (has_marker (text ++ 47 ∷ []))

-- a head whose first test was found, or was not; it stays where what stands around its test is no head without a test
abbrev pub tested_head : List ℕ → Option ((List ℕ × List ℕ) × List ℕ) → List ℕ
tested_head head None = head
tested_head head (Some x) = if is_untested (around x) then around x else head

-- a head without its test
abbrev pub untested : List ℕ → List ℕ
untested head = tested_head head (found_test head)

-- the place of a test that was found in a head that loses it
abbrev pub place_taken : Option ((List ℕ × List ℕ) × List ℕ) → Option ℕ
place_taken None = None
place_taken (Some x) = if is_untested (around x) then Some (length x.0.0) else None

-- where the test stands that a head loses
abbrev pub taken_test : List ℕ → Option ℕ
taken_test head = place_taken (found_test head)

-- ---- laws, each the contract of a function in `laws`

-- a head that lost its test stays when it is to lose one again
abbrev pub UntestedTwice : Type 0
UntestedTwice = (head : List ℕ) → untested (untested head) ≡ untested head

-- a head that lost its test begins with byte 128 exactly where it did before
abbrev pub UntestedStarts : Type 0
UntestedStarts = (head : List ℕ) → starts_segment (untested head) ≡ starts_segment head

-- ---- the text that each marker begins with

pub eexec_begins : Begins (codes "currentfile") eexec_there
unfolding eexec_marker eexec_there
eexec_begins bytes none = rw none refl

pub test_begins : Begins (codes "FontDirectory") font_test
unfolding known_name font_test
test_begins bytes none = rw none refl
