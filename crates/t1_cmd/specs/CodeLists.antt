-- Lists of codes as the program is given them, such as `65-90,97`.
use Rattle.std.specs.{Prelude.{ℕ, ◌+◌, ◌-◌, ◌==◌, ◌&&◌, nat_le, cond, List, [], ◌∷◌, ◌++◌, length, Option, Some, None, zero, suc, option_and_then}, Option.{option_map}}
use Rattle.t1_join.specs.ListingText.{split_at, number_after, up_to}

-- a code in one to three decimal digits
abbrev pub code_of : List ℕ → Option ℕ
code_of word = cond (nat_le 1 (length word) && nat_le (length word) 3) (option_and_then (up_to 255) (number_after 0 word)) None

-- so many codes from one on, upwards
abbrev pub codes_from : ℕ → ℕ → List ℕ
codes_from first zero = []
codes_from first (suc more) = first ∷ codes_from (first + 1) more

-- the codes from the first to the last, upwards
abbrev pub codes_between : ℕ × ℕ → List ℕ
codes_between ends = codes_from ends.0 (ends.1 + 1 - ends.0)

-- the ends of a word alone, or of what stands before and behind its first `-`, the first not above the last
abbrev pub ends_by : List ℕ → Option (List ℕ × List ℕ) → Option (ℕ × ℕ)
ends_by word None = option_map (λ code. (code, code)) (code_of word)
ends_by word (Some parts) =
    option_and_then (λ first. option_and_then (λ last. cond (nat_le first last) (Some (first, last)) None) (code_of parts.1)) (code_of parts.0)

-- the first and the last code of a word: one code, or two with `-` between them
abbrev pub ends_of : List ℕ → Option (ℕ × ℕ)
ends_of word = ends_by word (split_at 45 word)

-- a byte goes onto the first word
abbrev pub onto_first : ℕ → List (List ℕ) → List (List ℕ)
onto_first b [] = (b ∷ []) ∷ []
onto_first b (word ∷ words) = (b ∷ word) ∷ words

-- the words of a text, between commas
abbrev pub words_of : List ℕ → List (List ℕ)
words_of [] = [] ∷ []
words_of (b ∷ bs) = cond (b == 44) ([] ∷ words_of bs) (onto_first b (words_of bs))

-- the codes of words, one after the other, if each has codes
abbrev pub codes_in : List (List ℕ) → Option (List ℕ)
codes_in [] = Some []
codes_in (word ∷ words) = option_and_then (λ ends. option_map (λ more. codes_between ends ++ more) (codes_in words)) (ends_of word)

-- the codes that a list spells, in its order
abbrev pub codes_listed : List ℕ → Option (List ℕ)
codes_listed text = codes_in (words_of text)
