-- The marker that ends the clear text, and the cipher after it (Adobe Type 1 Font Format 1.1, chapter 7).
use Rattle.std.specs.Prelude.{ℕ, ◌+◌, ◌*◌, ◌==◌, ◌&&◌, ◌||◌, nat_le, Bool, true, false, List, [], ◌∷◌, ◌++◌, length, take, take_while, filter, codes, unwrap_or}
use Rattle.hex.specs.Hex.{is_hex_digit, hex_digit_value}
use Rattle.t1_grammar.specs.Grammar.{Grammar, pure, ◌>>=◌, ◌>>◌, that, run, before, fixed, either, all}
use Rattle.t1_bytes.specs.White.{is_white, gap}

-- ---- the marker

-- a blank, a tab, CR or LF
abbrev pub is_blank : ℕ → Bool
is_blank b = b == 32 || b == 9 || b == 13 || b == 10

-- one of these four stands next
abbrev pub blank_comes : List ℕ → Bool
blank_comes [] = false
blank_comes (b ∷ bs) = is_blank b

-- `currentfile`, white space and `eexec`, before a blank, a tab, CR or LF; its value is its own bytes
unfoldable pub eexec_marker : Grammar (List ℕ)
eexec_marker = do
  currentfile ← fixed (codes "currentfile")
  between ← gap
  eexec ← fixed (codes "eexec")
  before blank_comes
  pure (currentfile ++ between ++ eexec)

-- ---- the cipher

-- the value of a hexadecimal digit of either case
abbrev pub digit_value : ℕ → ℕ
digit_value b = unwrap_or (hex_digit_value b) 0

-- the bytes that hexadecimal digits spell, two for each; an odd last digit is dropped
abbrev pub paired : List ℕ → List ℕ
paired [] = []
paired (high ∷ []) = []
paired (high ∷ low ∷ rest) = (digit_value high * 16 + digit_value low) ∷ paired rest

-- each byte is a hexadecimal digit
abbrev pub all_hex : List ℕ → Bool
all_hex [] = true
all_hex (b ∷ bs) = is_hex_digit b && all_hex bs

-- the next four bytes are hexadecimal digits
abbrev pub is_hex_text : List ℕ → Bool
is_hex_text bytes = nat_le 4 (length bytes) && all_hex (take 4 bytes)

-- a hexadecimal digit or white space
abbrev pub hex_or_white : ℕ → Bool
hex_or_white b = is_hex_digit b || is_white b

-- the digits of the run of hexadecimal digits and white space at the front
unfoldable pub digits_ahead : List ℕ → List ℕ
digits_ahead text = filter is_hex_digit (take_while hex_or_white text)

-- the bytes that these digits spell
unfoldable pub spelled_ahead : List ℕ → List ℕ
spelled_ahead text = paired (digits_ahead text)

-- Behind blanks, tabs, CR and LF, where four hexadecimal digits come, the run of such digits and white space; its value is this run.
unfoldable pub hex_text : Grammar (List ℕ)
hex_text = do
  run is_blank
  before is_hex_text
  run hex_or_white

-- the bytes of a run of hexadecimal digits and white space
abbrev pub hex_cipher : Grammar (List ℕ)
hex_cipher = do
  before is_hex_text
  digits ← run hex_or_white
  pure (paired (filter is_hex_digit digits))

-- at least four bytes, as many as are dropped when it is decrypted
abbrev pub has_four : List ℕ → Bool
has_four cipher = nat_le 4 (length cipher)

-- The cipher: blanks, tabs, CR and LF are skipped, then it is hexadecimal where four digits come, else all that is left.
-- It has four bytes or more.
unfoldable pub cipher_text : Grammar (List ℕ)
cipher_text = that has_four (do
  run is_blank
  either hex_cipher all)
