-- The kept texts of normalized fonts. A step that changes a text is taken if the result is again a text of that place, and if it stays when this
-- step and those before it are tried again. So normalizing texts twice is normalizing them once, and no marker arises or goes.
use Rattle.std.specs.{Prelude.{ℕ, ◌==◌, ◌&&◌, not, Bool, true, false, List, [], ◌∷◌, ◌++◌, Option, Some, None, Result, Ok, Err, if◌then◌else◌}, Str.{bytes_eq}}
use Rattle.t1_grammar.specs.{Grammar.{Grammar, first}, Places.{occurs}}
use Rattle.t1_font.specs.{declared.normal_texts.KeptText.{KeptText}, declared.normal_texts.KeptText.TheVariants.{Head, ClearTail, Private, Middle, Tail}, declared.fault.ReadFault.{ReadFault}}
use Rattle.t1_font.specs.{Pieces.{iv_of}, FontValue.{Shell}}
use Rattle.t1_text.specs.{Words.{regular_comes}, Markers.{subrs_marker, chars_marker, closefile}, FontTest.{eexec_there, has_marker}, Squeezing.{squeezed}, Identity.{unnumbered}}
use Rattle.t1_text.specs.Tags.{tagged_name, both_untagged}

-- ---- texts of a font

-- the bytes behind something that was found are these
abbrev pub is_left : {A : Type 0} → List ℕ → Option (A × List ℕ) → Bool
is_left rest None = false
is_left rest (Some x) = bytes_eq rest x.1

-- behind the first place of g stand these bytes
abbrev pub ends_at : {A : Type 0} → Grammar A → List ℕ → List ℕ → Bool
ends_at g rest text = is_left rest ((first g).read text)

-- the number that was read is this one
abbrev pub reads_number : ℕ → Result ℕ ReadFault → Bool
reads_number iv (Ok n) = n == iv
reads_number iv (Err e) = false

-- what is wanted of the text alone
abbrev pub own_fits : KeptText → List ℕ → Bool
own_fits Head text = true
own_fits ClearTail text = not (regular_comes text)
own_fits (Private iv) text = reads_number iv (iv_of text).read
own_fits Middle text = not (regular_comes text) && not (occurs subrs_marker text)
own_fits Tail text = not (regular_comes text) && (not (occurs subrs_marker text) && ends_at closefile [] text)

-- the byte that is thought behind it: that of a line's end behind `currentfile eexec`, else the slash of a marker
abbrev pub next_byte : KeptText → ℕ
next_byte ClearTail = 10
next_byte Head = 47
next_byte (Private iv) = 47
next_byte Middle = 47
next_byte Tail = 47

-- what is wanted of the text with that byte
abbrev pub followed_fits : KeptText → List ℕ → Bool
followed_fits Head text = not (has_marker text)
followed_fits ClearTail text = ends_at eexec_there (10 ∷ []) text
followed_fits (Private iv) text = not (occurs subrs_marker text) && not (occurs chars_marker text)
followed_fits Middle text = not (occurs chars_marker text)
followed_fits Tail text = true

-- a text can be that text of a font
abbrev pub fits : KeptText → List ℕ → Bool
fits kept text = own_fits kept text && followed_fits kept (text ++ next_byte kept ∷ [])

-- ---- steps

-- a step behind what was done before, if its result fits and stays
abbrev pub taken : {A : Type 0} → (A → A → Bool) → (A → Bool) → (A → A) → (A → A) → A → A
taken same fits before step x =
    if fits (step (before x)) && (same (before (step (before x))) (step (before x)) && same (step (step (before x))) (step (before x)))
    then step (before x) else before x

-- a text with its white space squeezed
abbrev pub squeezed_text : KeptText → List ℕ → List ℕ
squeezed_text kept text = taken bytes_eq (fits kept) (λ t. t) squeezed text

-- and without the lines that number its font
abbrev pub normal_text : KeptText → List ℕ → List ℕ
normal_text kept text = taken bytes_eq (fits kept) (squeezed_text kept) unnumbered text

-- two texts are those two
abbrev pub same_both : List ℕ × List ℕ → List ℕ × List ℕ → Bool
same_both x y = bytes_eq x.0 y.0 && bytes_eq x.1 y.1

-- the two texts around the Encoding, each by itself
abbrev pub both_normal : List ℕ × List ℕ → List ℕ × List ℕ
both_normal x = (normal_text Head x.0, normal_text ClearTail x.1)

-- the two texts without tags
abbrev pub without_tags : List ℕ × List ℕ → List ℕ × List ℕ
without_tags x = both_untagged (tagged_name x) x

-- they can be the two texts of a font
abbrev pub both_fit : List ℕ × List ℕ → Bool
both_fit x = fits Head x.0 && fits ClearTail x.1

-- the two texts around the Encoding, normalized
abbrev pub normal_clear : List ℕ × List ℕ → List ℕ × List ℕ
normal_clear x = taken same_both both_fit both_normal without_tags x

-- ---- shells

-- a shell whose texts are normalized
abbrev pub normal_texts : Shell → Shell
normal_texts s = record {
  head = (normal_clear (s.head, s.clear_tail)).0;
  clear_tail = (normal_clear (s.head, s.clear_tail)).1;
  private = normal_text (Private s.len_iv) s.private;
  middle = squeezed_text Middle s.middle;
  tail = squeezed_text Tail s.tail;
  len_iv = s.len_iv;
  subrs = s.subrs;
  glyphs_rd = s.glyphs_rd;
  glyphs_def = s.glyphs_def;
}
