-- What becomes of the fonts of a document: those of one name are joined.
use Rattle.std.specs.Prelude.{◌≡◌, ℕ, map, Bool, true, false, List, [], ◌∷◌, filter, codes, Option, Some, None, Result, Ok, Err, not, if◌then◌else◌}
use Rattle.std.specs.{List.{list_all, list_any, flat_map}, Option.{option_and_then}}
use Rattle.std.specs.Str.{bytes_eq}
use Rattle.t1_font.specs.{declared.fault.ReadFault.{ReadFault}, FontValue.{FontValue}, FaultTexts.{fault_text}, ReadFont.{read_font_widely}, FontNames.{normalized_named}}
use Rattle.t1_subset.specs.{FaultTexts.{rejoin_text}, declared.fault.RejoinFault.{RejoinFault}, declared.fault.RejoinFault.TheVariants.{Lacks, Merge}, declared.conflict.Conflict.{Conflict}}
use Rattle.t1_subset.specs.{declared.conflict.Conflict.TheVariants.{Memory}, Rejoins.{Rejoin, NotRejoined}}
use Rattle.t1_document.specs.{declared.joins.Kept.{Kept}, declared.joins.Kept.TheVariants.{Unread, Unlike, Barred}, declared.joins.Outcome.{Outcome}}
use Rattle.t1_document.specs.{declared.joins.Outcome.TheVariants.{Same, Joined, Stays}, Fonts.{canon_text}, Documents.{Place, document_of}, Rewriting.{NewTexts, can_stand, is_seen, levelled}}

-- what is printed of a reason to keep texts
abbrev pub kept_text : Kept → List ℕ
kept_text (Unread fault) = fault_text fault
kept_text (Unlike fault) = rejoin_text fault
kept_text Barred = codes "the joined font does not fit a place"

-- ---- the fonts of a name

-- the places of documents, each by itself
abbrev pub places_of_all : List (List ℕ) → List Place
places_of_all documents = flat_map (λ d. (document_of d).places) documents

-- the places of a name, in their order
abbrev pub places_under : List ℕ → List Place → List Place
places_under name ps = filter (λ p. bytes_eq p.name name) ps

-- one font more before fonts, or the fault that is met first
abbrev pub with_font : Result FontValue ReadFault → Result (List FontValue) ReadFault → Result (List FontValue) ReadFault
with_font (Ok f) (Ok fs) = Ok (f ∷ fs)
with_font (Ok f) (Err e) = Err e
with_font (Err e) more = Err e

-- the fonts that places spell widely, or the fault of the first that spells none
abbrev pub fonts_of_places : List Place → Result (List FontValue) ReadFault
fonts_of_places [] = Ok []
fonts_of_places (p ∷ ps) = with_font (read_font_widely p.text) (fonts_of_places ps)

-- ---- what they come to

-- a growth was refused
abbrev pub is_full : Conflict → Bool
is_full Memory = true
is_full conflict = false

abbrev pub wants_memory : RejoinFault → Bool
wants_memory (Lacks glyph index) = false
wants_memory (Merge conflict) = is_full conflict

-- the text is the canonical one of what the fonts rejoin to
abbrev pub RejoinToText : List FontValue → List ℕ → Type 0
RejoinToText fonts text = (j : FontValue) × Rejoin fonts j × (text ≡ canon_text j)

-- Fonts that were normalized under the name of these places: they rejoin to a text that can stand at each place; or there is a place where it can't; or they
-- don't rejoin, and it is said why.
abbrev pub OfNormalized : List FontValue → List Place → Outcome → Type 0
OfNormalized fonts ps (Same text) = ⊥
OfNormalized fonts ps (Joined text) = RejoinToText fonts text.items × (list_all (can_stand text.items) ps ≡ true)
OfNormalized fonts ps (Stays Barred) = (text : List ℕ) × RejoinToText fonts text × (list_all (can_stand text) ps ≡ false)
OfNormalized fonts ps (Stays (Unlike fault)) = NotRejoined fonts fault × (wants_memory fault ≡ false)
OfNormalized fonts ps (Stays (Unread fault)) = ⊥

-- fonts of places of this name, or the fault of one
abbrev pub OfFonts : List ℕ → List Place → Result (List FontValue) ReadFault → Outcome → Type 0
OfFonts name ps (Ok fonts) o = OfNormalized (normalized_named name fonts) ps o
OfFonts name ps (Err fault) o = o ≡ Stays (Unread fault)

-- it is this text that all have
abbrev pub IsSame : List ℕ → Outcome → Type 0
IsSame text (Same t) = t.now ≡ text
IsSame text (Joined t) = ⊥
IsSame text (Stays why) = ⊥

-- places of this name, of which the first has this text, that have one text, or not
abbrev pub OfPlaces : List ℕ → List Place → List ℕ → Bool → Outcome → Type 0
OfPlaces name ps text true o = IsSame text o
OfPlaces name ps text false o = OfFonts name ps (fonts_of_places ps) o

-- What the places of a name come to. There is nothing to say of none. If all have one text, it is that; else the fonts that they spell are normalized, keep the
-- name, and rejoin.
abbrev pub ComeTo : List ℕ → List Place → Option Outcome → Type 0
ComeTo name [] o = o ≡ None
ComeTo name (p ∷ ps) None = ⊥
ComeTo name (p ∷ ps) (Some o) = OfPlaces name (p ∷ ps) p.text (list_all (λ q. bytes_eq p.text q.text) ps) o

-- ---- the new texts of a document

-- the text that all places of the name get
abbrev pub text_for_places : Outcome → Option (List ℕ)
text_for_places (Same text) = Some text.now
text_for_places (Joined text) = Some text.items
text_for_places (Stays why) = None

-- for each name what its places come to
abbrev pub Outcomes : Type 0
Outcomes = List ℕ → Option Outcome

-- those of places
abbrev pub AreOutcomes : List Place → Outcomes → Type 0
AreOutcomes ps outcomes = (name : List ℕ) → ComeTo name (places_under name ps) (outcomes name)

-- the new texts of names
abbrev pub new_texts : Outcomes → NewTexts
new_texts outcomes name = option_and_then text_for_places (outcomes name)

-- ---- documents

-- the outcomes are those of the fonts of all documents, and each document with them is one of these
abbrev pub LevelsTo : List (List ℕ) → List (List ℕ) → Type 0
LevelsTo documents out = (outcomes : Outcomes) × AreOutcomes (places_of_all documents) outcomes × (out ≡ map (levelled (new_texts outcomes)) documents)

-- ---- names

-- the names of places, each once, in the order of the first place of each, but for those that were seen
abbrev pub names_from : List (List ℕ) → List Place → List (List ℕ)
names_from seen [] = []
names_from seen (p ∷ ps) = if is_seen seen p.name then names_from seen ps else p.name ∷ names_from (p.name ∷ seen) ps

-- no place has this name
abbrev pub lacks_name : List ℕ → List Place → Bool
lacks_name name ps = not (list_any (λ p. bytes_eq name p.name) ps)
