-- Boxes of texts and shells, and the one box for several, computed on the definitions.
use Rattle.std.{proofs.Common.{◌≡◌, true, false, ℕ, List, [], ◌∷◌, ◌++◌, Option, Some, None, refl}, specs.Prelude.{codes}}
use Rattle.std.specs.declared.cmp.Ordering.TheVariants.{Less, Equal}
use Rattle.t1_grammar.specs.Grammar.{first_at}
use Rattle.t1_bytes.specs.White.{gap}
use Rattle.t1_font.specs.FontValue.{FontValue, Shell, Encoding, SparseArray, CharStrings}
use Rattle.t1_text.specs.{Numbers.{number, is_number, value_cmp}, Boxes.{Box, opening, spaced, box_numbers, font_box, joined_box}}
use Rattle.t1_font.specs.FontBoxes.{box_of, clear_with, box_stays, boxes_of}

-- a shell with these two texts
abbrev shell : List ℕ → List ℕ → Shell
shell head tail = record {
  head = head;
  clear_tail = tail;
  private = [];
  middle = [];
  tail = [];
  len_iv = 4;
  subrs = None;
  glyphs_rd = [];
  glyphs_def = [];
}

abbrev a_box : List ℕ → List ℕ → List ℕ → List ℕ → Box
a_box llx lly urx ury = record { llx = llx; lly = lly; urx = urx; ury = ury }

-- the box of a head
abbrev in_head : List ℕ → Option Box
in_head head = box_of (shell head [])

-- ---- boxes of texts

integers : in_head (codes "%! /FontBBox {-34 -251 988 750} readonly def ") ≡ Some (a_box (codes "-34") (codes "-251") (codes "988") (codes "750"))
unfolding first_at gap number opening spaced box_numbers font_box
integers = refl

-- an array, white space in front and at the end, and more of it between
array : in_head (codes "/FontBBox[ -34\n-251  988\t750 ]def") ≡ Some (a_box (codes "-34") (codes "-251") (codes "988") (codes "750"))
unfolding first_at gap number opening spaced box_numbers font_box
array = refl

-- points and signs
points : in_head (codes "/FontBBox{-.5 +3 12.50 7.}") ≡ Some (a_box (codes "-.5") (codes "+3") (codes "12.50") (codes "7."))
unfolding first_at gap number opening spaced box_numbers font_box
points = refl

-- NUL is white space
nul : in_head (codes "/FontBBox {0" ++ 0 ∷ [] ++ codes "0 1 1}") ≡ Some (a_box (codes "0") (codes "0") (codes "1") (codes "1"))
unfolding first_at gap number opening spaced box_numbers font_box
nul = refl

-- a bracket closes no brace
other_end : in_head (codes "/FontBBox {0 0 1 1] def") ≡ None
unfolding first_at gap number opening spaced box_numbers font_box
other_end = refl

five_numbers : in_head (codes "/FontBBox {0 0 1 1 1} def") ≡ None
unfolding first_at gap number opening spaced box_numbers font_box
five_numbers = refl

three_numbers : in_head (codes "/FontBBox {0 0 1} def") ≡ None
unfolding first_at gap number opening spaced box_numbers font_box
three_numbers = refl

comment : in_head (codes "/FontBBox {0 0 % two\n1 1} def") ≡ None
unfolding first_at gap number opening spaced box_numbers font_box
comment = refl

exponent : in_head (codes "/FontBBox {0 0 1e3 1} def") ≡ None
unfolding first_at gap number opening spaced box_numbers font_box
exponent = refl

-- the first place that has a box counts
second_place : in_head (codes "/FontBBox {0 0 1e3 1} /FontBBox {0 0 1 1} /FontBBox {2 2 2 2}")
    ≡ Some (a_box (codes "0") (codes "0") (codes "1") (codes "1"))
unfolding first_at gap number opening spaced box_numbers font_box
second_place = refl

-- the clear tail counts where the head has none
clear_tail : box_of (shell (codes "%! /FontBBoxes {0 0 1 1} ") (codes " /FontBBox {0 0 2 2} ")) ≡ Some (a_box (codes "0") (codes "0") (codes "2") (codes "2"))
unfolding first_at gap number opening spaced box_numbers font_box
clear_tail = refl

head_first : box_of (shell (codes "/FontBBox {0 0 1 1}") (codes "/FontBBox {0 0 2 2}")) ≡ Some (a_box (codes "0") (codes "0") (codes "1") (codes "1"))
unfolding first_at gap number opening spaced box_numbers font_box
head_first = refl

-- ---- numbers

whole_number : is_number (codes "-12") ≡ true
whole_number = refl

no_digit : is_number (codes "-.") ≡ false
no_digit = refl

-- a sign alone, and one before a point alone
plus_alone : is_number (codes "+") ≡ false
plus_alone = refl

minus_alone : is_number (codes "-") ≡ false
minus_alone = refl

point_alone : is_number (codes ".") ≡ false
point_alone = refl

-- minus zero is zero, above what is below it and below what is above
minus_zero_is_zero : value_cmp (codes "-0") (codes "0") ≡ Equal
minus_zero_is_zero = refl

below_minus_zero : value_cmp (codes "-0.1") (codes "-0") ≡ Less
below_minus_zero = refl

above_minus_zero : value_cmp (codes "-0.0") (codes "+.1") ≡ Less
above_minus_zero = refl

two_signs : is_number (codes "--1") ≡ false
two_signs = refl

two_points : is_number (codes "1.2.3") ≡ false
two_points = refl

base : is_number (codes "16#FF") ≡ false
base = refl

a_word : is_number (codes "def") ≡ false
a_word = refl

-- ---- the one box

-- the same number four times
abbrev all_of : List ℕ → Box
all_of w = a_box w w w w

two_boxes : joined_box (a_box (codes "-34") (codes "-251") (codes "988") (codes "750") ∷ a_box (codes "-9") (codes "-1000") (codes "1000") (codes "99") ∷ [])
    ≡ a_box (codes "-34") (codes "-1000") (codes "1000") (codes "750")
two_boxes = refl

minus_zero : joined_box (a_box (codes "-0") (codes "-0") (codes "1") (codes "1") ∷ a_box (codes "0") (codes "-1") (codes "1") (codes "1") ∷ [])
    ≡ a_box (codes "0") (codes "-1") (codes "1") (codes "1")
minus_zero = refl

-- of several spellings the shortest, in any order
shortest : joined_box (a_box (codes "0.0") (codes "007") (codes "12.50") (codes "0.5") ∷ a_box (codes "0") (codes "+7") (codes "12.5") (codes ".5") ∷ [])
    ≡ a_box (codes "0") (codes "+7") (codes "12.5") (codes ".5")
shortest = refl

shortest_back : joined_box (a_box (codes "0") (codes "+7") (codes "12.5") (codes ".5") ∷ a_box (codes "0.0") (codes "007") (codes "12.50") (codes "0.5") ∷ [])
    ≡ a_box (codes "0") (codes "+7") (codes "12.5") (codes ".5")
shortest_back = refl

-- of spellings of one length the least by bytes
least_bytes : joined_box (all_of (codes "1.") ∷ all_of (codes "+1") ∷ all_of (codes "01") ∷ []) ≡ all_of (codes "+1")
least_bytes = refl

fractions : joined_box (a_box (codes "-1.25") (codes ".125") (codes "1.25") (codes "2") ∷ a_box (codes "-1.5") (codes ".2") (codes "1.5") (codes "10") ∷ [])
    ≡ a_box (codes "-1.5") (codes ".125") (codes "1.5") (codes "10")
fractions = refl

-- a box of zeros among three makes them all so
zeros : joined_box (all_of (codes "-5") ∷ a_box (codes "0.0") (codes "-0") (codes "0") (codes "0") ∷ all_of (codes "7") ∷ [])
    ≡ a_box (codes "0.0") (codes "-0") (codes "0") (codes "0")
zeros = refl

-- each zero as one of those boxes spells it
two_zeros : joined_box (a_box (codes "0.0") (codes "-0") (codes "0") (codes "0") ∷ all_of (codes "7") ∷
    a_box (codes "0.0") (codes "0.0") (codes "-0") (codes "+0") ∷ [])
    ≡ a_box (codes "0.0") (codes "-0") (codes "0") (codes "0")
two_zeros = refl

-- two boxes whose least box has zeros only
zeros_by_chance : joined_box (a_box (codes "0") (codes "5") (codes "-1") (codes "0") ∷
    a_box (codes "3") (codes "0") (codes "0") (codes "-2") ∷ all_of (codes "1") ∷ [])
    ≡ a_box (codes "0") (codes "0") (codes "1") (codes "1")
zeros_by_chance = refl

-- ---- shells with another box

-- brackets, and what stands between the numbers, stay
kept : clear_with (a_box (codes "-1") (codes "-2") (codes "30") (codes "40"))
    (shell (codes "%! /FontBBox[ 0  0\n1 1 ]readonly def ") (codes " /FontBBox {5 5 5 5} "))
    ≡ (codes "%! /FontBBox[ -1  -2\n30 40 ]readonly def ", codes " /FontBBox {5 5 5 5} ")
unfolding first_at gap number opening spaced box_numbers font_box
kept = refl

in_tail : clear_with (all_of (codes "9")) (shell (codes "%! ") (codes " /FontBBox{0 0 1 1}readonly def ")) ≡
    (codes "%! ", codes " /FontBBox{9 9 9 9}readonly def ")
unfolding first_at gap number opening spaced box_numbers font_box
in_tail = refl

no_box : clear_with (all_of (codes "9")) (shell (codes "%! ") (codes " /FontBBox 0 0 1 1 ")) ≡ (codes "%! ", codes " /FontBBox 0 0 1 1 ")
unfolding first_at gap number opening spaced box_numbers font_box
no_box = refl

read_again : box_stays (all_of (codes "9")) (shell (codes "/FontBBox {0 0 1 1} def") []) ≡ true
unfolding first_at gap number opening spaced box_numbers font_box
read_again = refl

-- a word that is no number is not read again
not_again : box_stays (all_of (codes "x")) (shell (codes "/FontBBox {0 0 1 1} def") []) ≡ false
unfolding first_at gap number opening spaced box_numbers font_box
not_again = refl

-- ---- lists

-- a font of two texts
abbrev font : Encoding → SparseArray → CharStrings → List ℕ → FontValue
font e m g head = record { shell = shell head []; encoding = e; subrs = m; glyphs = g }

-- a brace beside a bracket
procedures : (e : Encoding) (m : SparseArray) (g : CharStrings) →
    boxes_of (font e m g (codes "/FontBBox {0 0 1 1} def") ∷ font e m g (codes "/FontBBox [0 -2 0.5 3] def") ∷ [])
    ≡ Some (a_box (codes "0") (codes "0") (codes "1") (codes "1") ∷ a_box (codes "0") (codes "-2") (codes "0.5") (codes "3") ∷ [])
unfolding first_at gap number opening spaced box_numbers font_box
procedures e m g = refl

-- where one font has no box, none has
one_without : (e : Encoding) (m : SparseArray) (g : CharStrings) →
    boxes_of (font e m g (codes "/FontBBox {0 0 1 1} def") ∷ font e m g (codes "/FontBBox 7 def") ∷ []) ≡ None
unfolding first_at gap number opening spaced box_numbers font_box
one_without e m g = refl
