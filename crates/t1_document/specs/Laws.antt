-- The laws of documents, each the contract of a function in `laws`.
use Rattle.std.specs.{Prelude.{◌≡◌, ◌⊎◌, ◌<◌, ℕ, List, [], ◌∷◌, ◌++◌, codes, not, length, map, true, false, Some, None, Ok}, List.{AllByRecursion}}
use Rattle.t1_font.specs.{FontValue.{FontValue}, IsFont.{IsFont}, Canon.{canon}, ReadFont.{read_font_widely}}
use Rattle.t1_text.specs.Tags.{name_in}
use Rattle.t1_bytes.specs.declared.form.Form.TheVariants.{Pfa}
use Rattle.t1_document.specs.{Lines.{breaks}, Stretches.{Stretches, stretches, stretches_text, mark_lines, AreThose}}
use Rattle.t1_document.specs.{Marks.{has_mark}, Fonts.{font_in, canon_text}, Documents.{Place, Document, document_bytes, document_of, IsClosed, followed}}
use Rattle.t1_document.specs.Rewriting.{NewTexts, can_stand, is_refused, standing, document_rewritten, fated_bytes, level_fates, levelled, renewed}

-- ---- stretches

-- the stretches of a text, joined, are the text, and they are those of a text
pub record StretchesOfText : Type 0 where
  pub joined : (t : List ℕ) → stretches_text (stretches t) ≡ t
  pub those : (t : List ℕ) → AreThose (stretches t)

-- stretches that are those of a text are the stretches of what they are joined to
abbrev pub ReadAgain : Type 0
ReadAgain = (x : Stretches) → AreThose x → stretches (stretches_text x) ≡ x

-- ---- places

-- the bytes of a text's document are the text
abbrev pub DocumentOfText : Type 0
DocumentOfText = (text : List ℕ) → document_bytes (document_of text) ≡ text

-- the font that a place spells widely, whose head says the place's name
pub record SpellsPlace (p : Place) : Type 0 where
  pub font : FontValue
  pub spelled : read_font_widely p.text ≡ Ok font
  pub named : name_in font.shell.head ≡ Some p.name
  pub some : 0 < length p.name

-- each place of a document spells one
abbrev pub PlacesSpell : Type 0
PlacesSpell = (text : List ℕ) → AllByRecursion SpellsPlace (document_of text).places

-- where a line ends behind a text that leaves nothing open, the document of it and a text behind it is that of both
abbrev pub JoinedDocuments : Type 0
JoinedDocuments = (a b : List ℕ) → breaks a b ≡ true → IsClosed a → document_of (a ++ b) ≡ followed (document_of a) (document_of b)

-- ---- rewriting

-- what is written is read as the document that was to be written
abbrev pub RewrittenIsRead : Type 0
RewrittenIsRead = (new : NewTexts) (text : List ℕ) →
    document_of (document_bytes (document_rewritten new (document_of text))) ≡ document_rewritten new (document_of text)

-- its marks stay, each in its line
abbrev pub MarksStay : Type 0
MarksStay = (new : NewTexts) (text : List ℕ) →
    mark_lines (stretches (document_bytes (document_rewritten new (document_of text)))).1 ≡ mark_lines (stretches text).1

-- its bytes are, place by place, those before the place and what becomes of the place, and then the last bytes
abbrev pub OthersStay : Type 0
OthersStay = (new : NewTexts) (d : Document) →
    document_bytes (document_rewritten new d) ≡ fated_bytes (level_fates (standing new d.places) d.places) d.last

-- where fonts are levelled, each place has the new text of its name, and all else stays
abbrev pub LevelRenews : Type 0
LevelRenews = (new : NewTexts) (d : Document) →
    document_rewritten new d ≡ record { places = map (renewed (standing new d.places)) d.places; last = d.last }

-- the font text of each place of a document can stand there
abbrev pub OwnTextsStand : Type 0
OwnTextsStand = (text : List ℕ) → AllByRecursion (λ p. can_stand p.text p ≡ true) (document_of text).places

-- a place has the new text of its name, or there is none
abbrev pub HasNew : NewTexts → Place → Type 0
HasNew new p = (new p.name ≡ None) ⊎ (new p.name ≡ Some p.text)

-- where each place has its new text, levelling changes nothing
abbrev pub OwnTextsStay : Type 0
OwnTextsStay = (new : NewTexts) (text : List ℕ) → AllByRecursion (HasNew new) (document_of text).places → levelled new text ≡ text

-- a font whose head begins with `%!` and has a name
pub record HasHead (f : FontValue) (name : List ℕ) : Type 0 where
  pub inner : List ℕ
  pub starts : f.shell.head ≡ codes "%!" ++ inner
  pub named : name_in f.shell.head ≡ Some name
  pub some : 0 < length name

-- The canonical text of such a font is its PFA without the last line end, and a font text of its name, whatever follows it. So it can stand at
-- each place of this name, unless there is a mark in it.
pub record CanonStands : Type 0 where
  pub file : (f : FontValue) → canon f Pfa ≡ canon_text f ++ 10 ∷ []
  pub found : (f : FontValue) (name rest : List ℕ) → IsFont f → HasHead f name →
      font_in (canon_text f ++ rest) ≡ Some (record { name = name; text = canon_text f; rest = rest })
  pub stands : (f : FontValue) (p : Place) → IsFont f → HasHead f p.name → can_stand (canon_text f) p ≡ not (has_mark (canon_text f ++ p.rest))

-- to level twice is to level once
abbrev pub LevelledTwice : Type 0
LevelledTwice = (new : NewTexts) (text : List ℕ) → levelled new (levelled new text) ≡ levelled new text

-- no new text is refused in a document
abbrev pub NoneIsRefused : NewTexts → Document → Type 0
NoneIsRefused new d = (name : List ℕ) → is_refused new d.places name ≡ false

-- no new text is refused in a text
abbrev pub NoneRefused : NewTexts → List ℕ → Type 0
NoneRefused new text = NoneIsRefused new (document_of text)

-- where no new text is refused, two texts of which the first leaves nothing open are levelled together as each by itself
abbrev pub LevelledApart : Type 0
LevelledApart = (new : NewTexts) (a b : List ℕ) → breaks a b ≡ true → IsClosed a → NoneRefused new a → NoneRefused new b →
    levelled new (a ++ b) ≡ levelled new a ++ levelled new b
