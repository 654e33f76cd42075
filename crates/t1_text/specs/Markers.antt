-- The markers of font text: where its parts begin, and where a font's own text ends.
use Rattle.std.{specs.{Prelude.{ℕ, not, nat_le, Bool, false, List, [], ◌∷◌, codes}, Option.{option_and_then}}, proofs.Common.{ap}}
use Rattle.t1_grammar.specs.Grammar.{Grammar, pure, ◌>>=◌, ◌>>◌, that, before, fixed, Begins}
use Rattle.t1_bytes.specs.White.{is_white, white, gap}
use Rattle.t1_text.specs.Words.{is_regular, keyword, decimal}

-- white space comes
abbrev pub white_comes : List ℕ → Bool
white_comes [] = false
white_comes (b ∷ bs) = is_white b

-- white space or a delimiter comes
abbrev pub break_comes : List ℕ → Bool
break_comes [] = false
break_comes (b ∷ bs) = not (is_regular b)

unfoldable pub encoding_marker : Grammar (Unit {0})
encoding_marker = do
  fixed (codes "/Encoding")
  before break_comes

-- the value is the declared count
unfoldable pub subrs_marker : Grammar ℕ
subrs_marker = do
  fixed (codes "/Subrs")
  gap
  declared ← decimal
  gap
  keyword (codes "array")
  before white_comes
  pure declared

unfoldable pub chars_marker : Grammar (Unit {0})
chars_marker = do
  fixed (codes "/CharStrings")
  gap
  decimal
  gap
  keyword (codes "dict")
  gap
  keyword (codes "dup")
  gap
  keyword (codes "begin")
  before white_comes

unfoldable pub len_iv_marker : Grammar (Unit {0})
len_iv_marker = do
  fixed (codes "/lenIV")
  before white_comes

-- white space, and a number of at most 255
unfoldable pub len_iv : Grammar ℕ
len_iv = do
  white
  that (λ n. nat_le n 255) decimal

unfoldable pub closefile : Grammar (List ℕ)
closefile = fixed (codes "closefile")

-- ---- the text that each begins with

pub encoding_begins : Begins (codes "/Encoding") encoding_marker
unfolding encoding_marker
encoding_begins bytes none = ap (option_and_then _) none

pub subrs_begins : Begins (codes "/Subrs") subrs_marker
unfolding subrs_marker
subrs_begins bytes none = ap (option_and_then _) none

pub chars_begins : Begins (codes "/CharStrings") chars_marker
unfolding chars_marker
chars_begins bytes none = ap (option_and_then _) none

pub len_iv_begins : Begins (codes "/lenIV") len_iv_marker
unfolding len_iv_marker
len_iv_begins bytes none = ap (option_and_then _) none

pub closefile_begins : Begins (codes "closefile") closefile
unfolding closefile
closefile_begins bytes none = none
