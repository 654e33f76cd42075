-- What rewriting changes in a text, word by word: white space, lines that number the font, the tags of its name, and the numbers of its box.
use Rattle.std.specs.Prelude.{◌≡◌, ◌⊎◌, ℕ, List, [], ◌∷◌, ◌++◌, codes, Option, Some, None, if◌then◌else◌}
use Rattle.t1_grammar.specs.Grammar.{first}
use Rattle.t1_bytes.specs.Eexec.{is_blank}
use Rattle.t1_text.specs.{Squeezing.{squeezed}, Identity.{identity_line, identity_comment}, Tags.{text_untagged, name_marker}, Boxes.{Box, BoxPlace, at_place, box_place_text}}
use Rattle.t1_text.specs.FontTest.{font_test, untested}

-- ---- words

-- a word, if it has bytes
abbrev pub some_word : List ℕ → List (List ℕ)
some_word [] = []
some_word (b ∷ bs) = (b ∷ bs) ∷ []

-- the words of a text behind the front of one
unfoldable pub words_behind : List ℕ → List ℕ → List (List ℕ)
words_behind front [] = some_word front
words_behind front (b ∷ bs) = if is_blank b then some_word front ++ words_behind [] bs else words_behind (front ++ b ∷ []) bs

-- the words of a text: what stands between its blanks, tabs, CR and LF
abbrev pub words : List ℕ → List (List ℕ)
words text = words_behind [] text

-- ---- words that are renewed

-- what becomes of a word where this name loses its tags
abbrev pub untagged_words : Option (List ℕ) → List ℕ → List (List ℕ)
untagged_words None word = word ∷ []
untagged_words (Some name) word = words (text_untagged name word)

-- these are the words of a line that numbers its font: of UniqueID or XUID alone
pub record NumbersFont (line : List (List ℕ)) : Type 0 where
  pub text : List ℕ
  pub behind : List ℕ
  pub numbers : identity_line.Spells tt text behind
  pub are : line ≡ words text

-- these are the words of a comment that would be such a line without its `%`
pub record NumbersInComment (line : List (List ℕ)) : Type 0 where
  pub text : List ℕ
  pub behind : List ℕ
  pub numbers : identity_comment.Spells tt text behind
  pub are : line ≡ words text

-- words that are renewed: those of a line that numbers the font go, a comment that would be one is left empty, and each other stays in its place, but for
-- the tags of a name
pub data Renews (name : Option (List ℕ)) : List (List ℕ) → List (List ℕ) → Type 0 where
  none : Renews name [] []
  stays : (word : List ℕ) (old new : List (List ℕ)) → Renews name old new → Renews name (word ∷ old) (untagged_words name word ++ new)
  goes : (line old new : List (List ℕ)) → NumbersFont line → Renews name old new → Renews name (line ++ old) new
  empties : (line old new : List (List ℕ)) → NumbersInComment line → Renews name old new → Renews name (line ++ old) (codes "%" ∷ new)

-- a text that is renewed
abbrev pub TextRenews : Option (List ℕ) → List ℕ → List ℕ → Type 0
TextRenews name old new = Renews name (words old) (words new)

-- ---- texts of a font

-- a text, or the same with other numbers in the box that it has
abbrev pub SameButNumbers : List ℕ → List ℕ → Type 0
SameButNumbers old new = (new ≡ old) ⊎ ((p : BoxPlace) × (b : Box) × (old ≡ box_place_text p) × (new ≡ box_place_text (at_place b p)))

-- a text, or the same with another name behind its first `/FontName`
abbrev pub SameButName : List ℕ → List ℕ → Type 0
SameButName old new = (new ≡ old) ⊎ ((v : List ℕ × List ℕ) × (front name other behind : List ℕ) × (first name_marker).Spells v front (name ++ behind)
    × (old ≡ front ++ (name ++ behind)) × (new ≡ front ++ (other ++ behind)))

-- ---- laws, each the contract of a function in `laws`

-- a text that is squeezed keeps its words
abbrev pub SqueezedWords : Type 0
SqueezedWords = (text : List ℕ) → words (squeezed text) ≡ words text

-- a head is the same without its test, or it is the head; what goes is one test
abbrev pub TestGoes : Type 0
TestGoes = (head : List ℕ) → (untested head ≡ head)
    ⊎ ((front test behind rest : List ℕ) × font_test.Spells tt test rest × (head ≡ front ++ (test ++ behind)) × (untested head ≡ front ++ behind))
