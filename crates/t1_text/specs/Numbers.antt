-- Decimal numbers of font text, whole or with a point (PostScript Language Reference, 3.2.2), and the order of their values. An exponent or another
-- base makes no decimal number.
use Rattle.std.specs.{Prelude.{ℕ, ◌-◌, ◌==◌, ◌&&◌, ◌||◌, not, nat_le, Bool, true, false, List, [], ◌∷◌, length, take, drop, if◌then◌else◌}, declared.cmp.Ordering.{Ordering}}
use Rattle.std.specs.{Ordering.{nat_cmp, is_gt, on, then_cmp, flip_args}, Cmp.Lexicographic.{slice_cmp}, List.{fold, list_any, list_all, suffix_len}}
use Rattle.t1_grammar.specs.Grammar.{Grammar, that, run}
use Rattle.t1_text.specs.{Words.{is_regular, is_digit}, Rewriting.{parted}}

-- ---- spellings

-- a plus or a minus sign
abbrev pub is_sign : ℕ → Bool
is_sign b = b == 43 || b == 45

-- a word without the sign that it begins with
abbrev pub unsigned : List ℕ → List ℕ
unsigned [] = []
unsigned (b ∷ bs) = if is_sign b then bs else b ∷ bs

-- the digits before the point, and what stands from the point on
abbrev pub at_point : List ℕ → List ℕ × List ℕ
at_point w = parted is_digit (unsigned w)

-- a point and digits, or nothing
abbrev pub is_fraction : List ℕ → Bool
is_fraction [] = true
is_fraction (b ∷ bs) = b == 46 && list_all is_digit bs

-- an optional sign, and then digits, at least one, with or without a point
abbrev pub is_number : List ℕ → Bool
is_number w = is_fraction (at_point w).1 && list_any is_digit w

-- a word that is a number
unfoldable pub number : Grammar (List ℕ)
number = that is_number (run is_regular)

-- ---- values

-- the digit 0
abbrev pub is_nought : ℕ → Bool
is_nought d = d == 48

-- digits without the zeros that they begin with
abbrev pub significant : List ℕ → List ℕ
significant digits = (parted is_nought digits).1

-- digits without the zeros that they end with
abbrev pub trimmed : List ℕ → List ℕ
trimmed digits = take (length digits - suffix_len is_nought digits) digits

-- how far a number is from zero: the digits before its point, without zeros in front, and those behind it, without zeros at the end
pub record Size : Type 0 where
  pub whole : List ℕ
  pub fraction : List ℕ

-- the size of zero
abbrev pub no_size : Size
no_size = record { whole = []; fraction = [] }

abbrev pub size_of : List ℕ → Size
size_of w = record { whole = significant (at_point w).0; fraction = trimmed (drop 1 (at_point w).1) }

-- of two sizes that with more digits before the point is larger; else these digits decide, and then those behind it
abbrev pub size_cmp : Size → Size → Ordering
size_cmp = then_cmp (on (λ s. length s.whole) nat_cmp) (then_cmp (on (λ s. s.whole) (slice_cmp nat_cmp)) (on (λ s. s.fraction) (slice_cmp nat_cmp)))

-- a word begins with a minus sign
abbrev pub is_minus : List ℕ → Bool
is_minus [] = false
is_minus (b ∷ bs) = b == 45

-- how far a number is below zero, and how far above
abbrev pub below_zero : List ℕ → Size
below_zero w = if is_minus w then size_of w else no_size

abbrev pub above_zero : List ℕ → Size
above_zero w = if is_minus w then no_size else size_of w

-- numbers by value: farther below zero is less, and farther above is more; so minus zero is zero
abbrev pub value_cmp : List ℕ → List ℕ → Ordering
value_cmp = then_cmp (flip_args (on below_zero size_cmp)) (on above_zero size_cmp)

-- spellings by length, then by bytes
abbrev pub spelling_cmp : List ℕ → List ℕ → Ordering
spelling_cmp = then_cmp (on length nat_cmp) (slice_cmp nat_cmp)

-- the less value comes first, and of its spellings the shortest, then the least by bytes
abbrev pub least_first : List ℕ → List ℕ → Ordering
least_first = then_cmp value_cmp spelling_cmp

-- the greatest value comes first, and of its spellings, too, the shortest, then the least by bytes
abbrev pub greatest_first : List ℕ → List ℕ → Ordering
greatest_first = then_cmp (flip_args value_cmp) spelling_cmp

-- ---- the first of some words

-- of two words the one that comes first
abbrev pub sooner : (List ℕ → List ℕ → Ordering) → List ℕ → List ℕ → List ℕ
sooner cmp v w = if is_gt (cmp v w) then w else v

-- the word that comes first, nothing where there are no words
abbrev pub soonest : (List ℕ → List ℕ → Ordering) → List (List ℕ) → List ℕ
soonest cmp [] = []
soonest cmp (w ∷ ws) = fold (sooner cmp) w ws

-- 1 to 9
abbrev pub is_other_digit : ℕ → Bool
is_other_digit b = nat_le 49 b && nat_le b 57

-- each digit of a number is 0
abbrev pub is_zero : List ℕ → Bool
is_zero w = not (list_any is_other_digit w)
