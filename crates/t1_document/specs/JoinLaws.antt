-- The laws of documents whose fonts are joined, each the contract of a function in `laws`.
use Rattle.std.specs.{Prelude.{◌≡◌, ℕ, true, List, [], ◌∷◌, ◌++◌, Some, Ok, IsPermutation}, List.{AllByRecursion}}
use Rattle.t1_bytes.specs.Laws.{AreBytes}
use Rattle.t1_font.specs.{FontValue.{FontValue}, ReadFont.{read_font_widely}, Encodings.{SameKind}, Renewing.{RenewedAndNamed}}
use Rattle.t1_algebra.specs.{Keep.{has}, States.{code_state}, Alike.{DrawsAlike}, Laws.{AnswersAlike}}
use Rattle.t1_document.specs.{Lines.{breaks}, Documents.{Place, IsClosed}, Joins.{Outcomes, AreOutcomes, places_of_all, places_under, new_texts, LevelsTo}, Laws.{NoneRefused}}

-- ---- glyphs

-- Each glyph of f runs and draws in j as it did, its faults included, over the maps of both and as calls see them. The Encodings are the same word or both
-- tables, and each code that has a name in f has it in j. The kept texts of j are those of f, renewed and with the name of the place.
pub record StaysIn (f j : FontValue) : Type 0 where
  pub glyphs : (n : List ℕ) → has f n ≡ true → DrawsAlike f j n × AnswersAlike f j n
  pub kind : SameKind f.encoding j.encoding
  pub codes : (c : ℕ) (n : List ℕ) → code_state f.encoding c ≡ Some n → code_state j.encoding c ≡ Some n
  pub texts : RenewedAndNamed f.shell j.shell

-- the font that a place spells stays in j
abbrev pub FontStaysIn : FontValue → Place → Type 0
FontStaysIn j p = (f : FontValue) × (read_font_widely p.text ≡ Ok f) × StaysIn f j

-- what places get for their name is read as a font in which the font of each place of the name stays
abbrev pub NewTextsDraw : Type 0
NewTextsDraw = (documents : List (List ℕ)) → AllByRecursion AreBytes documents → (outcomes : Outcomes) → AreOutcomes (places_of_all documents) outcomes →
    (name text : List ℕ) → new_texts outcomes name ≡ Some text →
    (j : FontValue) × (read_font_widely text ≡ Ok j) × AllByRecursion (FontStaysIn j) (places_under name (places_of_all documents))

-- ---- texts

-- what places get can stand at each place of the name
abbrev pub NewTextsStand : Type 0
NewTextsStand = (documents : List (List ℕ)) (outcomes : Outcomes) → AreOutcomes (places_of_all documents) outcomes →
    AllByRecursion (NoneRefused (new_texts outcomes)) documents

-- what places get for a name is one text, or none
abbrev pub OneOutcome : Type 0
OneOutcome = (ps : List Place) (a b : Outcomes) → AreOutcomes ps a → AreOutcomes ps b → (name : List ℕ) → new_texts a name ≡ new_texts b name

-- documents are levelled to one list of documents
abbrev pub OneLevelled : Type 0
OneLevelled = (documents a b : List (List ℕ)) → LevelsTo documents a → LevelsTo documents b → a ≡ b

-- documents that were levelled are levelled to themselves
abbrev pub LevelledAgain : Type 0
LevelledAgain = (documents a b : List (List ℕ)) → LevelsTo documents a → LevelsTo a b → b ≡ a

-- two documents between which a line ends, of which the first leaves nothing open, are levelled as one text to what both are levelled to
abbrev pub LevelledTogether : Type 0
LevelledTogether = (a b x y : List ℕ) → breaks a b ≡ true → IsClosed a → LevelsTo (a ∷ b ∷ []) (x ∷ y ∷ []) → LevelsTo ((a ++ b) ∷ []) ((x ++ y) ∷ [])

-- in another order documents get the same texts
abbrev pub InAnyOrder : Type 0
InAnyOrder = (documents others : List (List ℕ)) → AllByRecursion AreBytes documents → IsPermutation documents others → (a b : Outcomes) →
    AreOutcomes (places_of_all documents) a → AreOutcomes (places_of_all others) b → (name : List ℕ) → new_texts a name ≡ new_texts b name
