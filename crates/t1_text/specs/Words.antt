-- Words of font text: white space, names, decimals and phrases.
use Rattle.std.specs.{Prelude.{ℕ, ◌+◌, ◌-◌, ◌*◌, ◌==◌, ◌&&◌, ◌||◌, not, nat_le, Bool, true, false, List, [], ◌∷◌, ◌++◌, length, codes, Option, Some, None, if◌then◌else◌}, Str.{bytes_eq}}
use Rattle.t1_grammar.specs.Grammar.{Grammar, pure, ◌>>=◌, ◌>>◌, that, run, count, fixed}
use Rattle.t1_bytes.specs.White.{is_white, gap}
use Rattle.t1_text.specs.{declared.dialect.Spacing.{Spacing}, Dialect.{white_in}}

-- ( ) < > [ ] { } / %
abbrev pub is_delimiter : ℕ → Bool
is_delimiter b = b == 40 || b == 41 || b == 60 || b == 62 || b == 91 || b == 93 || b == 123 || b == 125 || b == 47 || b == 37

-- neither white space nor a delimiter
abbrev pub is_regular : ℕ → Bool
is_regular b = not (is_white b || is_delimiter b)

-- each byte is regular
abbrev pub all_regular : List ℕ → Bool
all_regular [] = true
all_regular (b ∷ bs) = is_regular b && all_regular bs

-- a regular byte comes
abbrev pub regular_comes : List ℕ → Bool
regular_comes [] = false
regular_comes (b ∷ bs) = is_regular b

-- white space comes, or nothing
abbrev pub starts_white : List ℕ → Bool
starts_white [] = true
starts_white (b ∷ bs) = is_white b

-- one byte of white space
unfoldable pub one_white : Grammar (List ℕ)
one_white = that starts_white (count 1)

-- how many bytes a word has at most, and a phrase with the blank between its words
abbrev pub word_limit : ℕ
word_limit = 32

-- how many bytes a name has at most
abbrev pub name_limit : ℕ
name_limit = 127

abbrev pub is_word : List ℕ → Bool
is_word w = nat_le 1 (length w) && nat_le (length w) word_limit

-- some regular bytes, within the limit of a word
unfoldable pub word : Grammar (List ℕ)
word = that is_word (run is_regular)

-- the whole word w
unfoldable pub keyword : List ℕ → Grammar (List ℕ)
keyword w = that (bytes_eq w) (run is_regular)

abbrev pub is_digit : ℕ → Bool
is_digit b = nat_le 48 b && nat_le b 57

abbrev pub all_digits : List ℕ → Bool
all_digits [] = true
all_digits (b ∷ bs) = is_digit b && all_digits bs

-- the digit that comes first, and what stands after it
abbrev pub first_digit : List ℕ → Option (ℕ × List ℕ)
first_digit [] = None
first_digit (b ∷ bs) = if is_digit b then Some (b - 48, bs) else None

-- the number that digits spell after the number n
abbrev pub digits_after : ℕ → List ℕ → ℕ
digits_after n [] = n
digits_after n (b ∷ bs) = digits_after (n * 10 + (b - 48)) bs

abbrev pub is_decimal : List ℕ → Bool
is_decimal w = nat_le 1 (length w) && nat_le (length w) 9 && all_digits w

-- a word of 1 to 9 digits
unfoldable pub decimal : Grammar ℕ
decimal = do
  w ← that is_decimal (run is_regular)
  pure (digits_after 0 w)

abbrev pub is_name : List ℕ → Bool
is_name w = nat_le 1 (length w) && nat_le (length w) name_limit

-- a slash and the name
unfoldable pub name : Grammar (List ℕ)
name = do
  fixed (codes "/")
  that is_name (run is_regular)

-- a name behind white space
unfoldable pub next_name : Spacing → Grammar (List ℕ)
next_name d = do
  white_in d
  name

-- a word that takes the next one with it
abbrev pub is_access : List ℕ → Bool
is_access w = bytes_eq w (codes "noaccess") || bytes_eq w (codes "readonly") || bytes_eq w (codes "executeonly")

abbrev pub is_short : List ℕ → Bool
is_short w = nat_le (length w) word_limit

-- what follows the first word of a phrase, each word of which passes a test
abbrev pub phrase_after : (List ℕ → Bool) → Bool → List ℕ → Grammar (List ℕ)
phrase_after test true first = that is_short (do
  gap
  second ← that test word
  pure (first ++ codes " " ++ second))
phrase_after test false first = pure first

-- one word, or an access word and one more; kept with one blank inside
unfoldable pub phrase_of : (List ℕ → Bool) → Grammar (List ℕ)
phrase_of test = do
  first ← that test word
  phrase_after test (is_access first) first

-- any word, or any but `dup`
abbrev pub passes : Bool → List ℕ → Bool
passes may_be_dup w = may_be_dup || not (bytes_eq (codes "dup") w)
