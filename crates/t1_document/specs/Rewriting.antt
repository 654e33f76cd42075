-- A document whose fonts get new texts.
use Rattle.std.specs.{Prelude.{◌≡◌, ℕ, ◌==◌, ◌&&◌, not, Bool, true, false, List, [], ◌∷◌, ◌++◌, map, codes, Option, Some, None, if◌then◌else◌}, List.{list_any}, Str.{bytes_eq}}
use Rattle.t1_document.specs.{Lines.{breaks}, Marks.{has_mark}, Fonts.{FontText, font_in}}
use Rattle.t1_document.specs.Documents.{Place, Document, document_bytes, prepended, document_of}

-- a new text for some names
abbrev pub NewTexts : Type 0
NewTexts = List ℕ → Option (List ℕ)

-- ---- where a new text can stand

-- what was found is a font text of this name, with this rest behind it
abbrev pub is_font : List ℕ → List ℕ → List ℕ → Option FontText → Bool
is_font name text rest None = false
is_font name text rest (Some f) = bytes_eq f.name name && bytes_eq f.text text && bytes_eq f.rest rest

-- a text can stand before this rest, for a font of this name: with the rest behind it, it has no mark, and it is read again as such a font text
abbrev pub can_stand_before : List ℕ → List ℕ → List ℕ → Bool
can_stand_before text name rest = not (has_mark (text ++ rest)) && is_font name text rest (font_in (text ++ rest))

-- a text can stand at a place
abbrev pub can_stand : List ℕ → Place → Bool
can_stand text p = can_stand_before text p.name p.rest

-- two places have one name and one rest, so that the same texts can stand at both
abbrev pub are_like : Place → Place → Bool
are_like p q = bytes_eq p.name q.name && bytes_eq p.rest q.rest

-- there is a place, and another is like it
abbrev pub is_like : Option Place → Place → Bool
is_like None q = false
is_like (Some p) q = are_like p q

-- there is a text, and it can't stand at a place
abbrev pub is_barred : Option (List ℕ) → Place → Bool
is_barred None p = false
is_barred (Some text) p = not (can_stand text p)

-- there is a text, and it is this one
abbrev pub is_text : List ℕ → Option (List ℕ) → Bool
is_text text None = false
is_text text (Some other) = bytes_eq other text

-- the new text of each of these names can stand before the rest that is noted for it
abbrev pub AllTried : NewTexts → NewTexts → Type 0
AllTried new tried = (name rest text : List ℕ) → tried name ≡ Some rest → new name ≡ Some text → can_stand_before text name rest ≡ true

-- the new text of a name can't stand at one of its places
abbrev pub is_refused : NewTexts → List Place → List ℕ → Bool
is_refused new ps name = list_any (λ p. bytes_eq name p.name && is_barred (new p.name) p) ps

-- the new texts of names but for those that are refused
abbrev pub without_refused : (List ℕ → Bool) → NewTexts → NewTexts
without_refused refused new name = if refused name then None else new name

-- the new texts of the names that are not refused at one of their places
abbrev pub standing : NewTexts → List Place → NewTexts
standing new ps = without_refused (is_refused new ps) new

-- a slash comes
abbrev pub slash_comes : List ℕ → Bool
slash_comes [] = false
slash_comes (b ∷ bs) = b == 47

-- Bytes can stand in place of a font text and its rest: they begin with a slash, a line ends behind them, and none of their lines is a mark.
abbrev pub can_give : List ℕ → Bool
can_give bytes = slash_comes bytes && breaks bytes (codes "%") && not (has_mark bytes)

-- ---- what becomes of a place

-- it stays, it gets this font text, or its font text and its rest give way to these bytes
pub data Fate : Type 0 where
  Stays : Fate
  Becomes : List ℕ → Fate
  Gives : List ℕ → Fate

-- a name is among those that were seen
abbrev pub is_seen : List (List ℕ) → List ℕ → Bool
is_seen seen name = list_any (bytes_eq name) seen

-- a place before a document, as its fate is
abbrev pub at_fate : Fate → Place → Document → Document
at_fate Stays p d = record { places = p ∷ d.places; last = d.last }
at_fate (Becomes text) p d = record { places = record p { text = text } ∷ d.places; last = d.last }
at_fate (Gives bytes) p d = prepended (p.before ++ bytes) d

-- places, each with what becomes of it, and the bytes behind them
unfoldable pub fated : List (Place × Fate) → List ℕ → Document
fated [] last = record { places = []; last = last }
fated (x ∷ xs) last = at_fate x.1 x.0 (fated xs last)

-- ---- levelled

-- a place gets the new text of its name, if there is one
abbrev pub level_fate : Option (List ℕ) → Fate
level_fate None = Stays
level_fate (Some text) = Becomes text

-- places, each with what becomes of it where names have these new texts
abbrev pub level_fates : NewTexts → List Place → List (Place × Fate)
level_fates new ps = map (λ p. (p, level_fate (new p.name))) ps

-- a document whose fonts get the new texts that can stand
abbrev pub document_rewritten : NewTexts → Document → Document
document_rewritten new d = fated (level_fates (standing new d.places) d.places) d.last

-- ---- its bytes

-- what stands in place of the font text and the rest of a place
abbrev pub fate_bytes : Fate → Place → List ℕ
fate_bytes Stays p = p.text ++ p.rest
fate_bytes (Becomes text) p = text ++ p.rest
fate_bytes (Gives bytes) p = bytes

-- the bytes of places, each with what becomes of it: what stands before a place stays, and so do the last bytes
unfoldable pub fated_bytes : List (Place × Fate) → List ℕ → List ℕ
fated_bytes [] last = last
fated_bytes (x ∷ xs) last = x.0.before ++ (fate_bytes x.1 x.0 ++ fated_bytes xs last)

-- ---- of a text

-- the bytes of a document with new texts at each place of a name that is not refused
abbrev pub document_levelled : NewTexts → Document → List ℕ
document_levelled new d = document_bytes (document_rewritten new d)

-- each place of a name that is not refused has its new text
abbrev pub levelled : NewTexts → List ℕ → List ℕ
levelled new text = document_levelled new (document_of text)

-- a place with its new text, if it has one
abbrev pub with_new : Option (List ℕ) → Place → Place
with_new None p = p
with_new (Some text) p = record p { text = text }

-- a place of a name with its new text
abbrev pub renewed : NewTexts → Place → Place
renewed new p = with_new (new p.name) p
