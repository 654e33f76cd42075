-- A document as its places, which hold fonts, and the bytes before, between and behind them.
use Rattle.std.specs.{Prelude.{◌≡◌, ℕ, ◌==◌, ◌&&◌, Bool, true, false, List, [], ◌∷◌, ◌++◌, Option, Some, None, if◌then◌else◌}, List.{flat_map}, Option.{option_map}}
use Rattle.t1_font.specs.FontModel.{clamp}
use Rattle.t1_document.specs.{declared.marks.Side.{Side}, declared.marks.Side.TheVariants.{Begin, End}, declared.marks.Kind.{Kind}, declared.marks.Mark.{Mark}, declared.marks.Open.{Open}}
use Rattle.t1_document.specs.{Marks.{holds_fonts, holds_data, is_document, same_kind, open_count}, Stretches.{Stretch, Stretches, stretches}, Fonts.{FontText, font_in}}

-- A place: the bytes between the place before it and its font text, its kind, how many documents are open around it, the name of its font,
-- its font text, and the rest of the place.
pub record Place : Type 0 where
  pub before : List ℕ
  pub kind : Kind
  pub depth : ℕ
  pub name : List ℕ
  pub text : List ℕ
  pub rest : List ℕ

-- a document: its places, and the bytes behind the last one
pub record Document : Type 0 where
  pub places : List Place
  pub last : List ℕ

-- the bytes of a place, with those before it
abbrev pub place_bytes : Place → List ℕ
place_bytes p = p.before ++ (p.text ++ p.rest)

-- the bytes of a document
abbrev pub document_bytes : Document → List ℕ
document_bytes d = flat_map place_bytes d.places ++ d.last

-- ---- what is open

-- nothing is open
abbrev pub none_open : Open
none_open = record { documents = 0; raw = 0 }

-- what is open behind a mark
abbrev pub open_behind : Open → Mark → Open
open_behind o m = record {
  documents = if is_document m.kind then open_count m.side o.documents else o.documents;
  raw = if holds_data m.kind then open_count m.side o.raw else o.raw;
}

-- the same, as far as 64 bits count it
abbrev pub clamped : Open → Open
clamped o = record { documents = clamp o.documents; raw = clamp o.raw }

-- ---- places

-- a part begins
abbrev pub begins_part : Side → Bool
begins_part Begin = true
begins_part End = false

-- a part ends
abbrev pub ends_part : Side → Bool
ends_part Begin = false
ends_part End = true

-- the mark begins a part that may be a font, and this next mark ends a part of its kind
abbrev pub encloses : Mark → Option Mark → Bool
encloses m None = false
encloses m (Some next) = begins_part m.side && holds_fonts m.kind && ends_part next.side && same_kind m.kind next.kind

-- the mark of the next stretch
abbrev pub next_mark : List Stretch → Option Mark
next_mark [] = None
next_mark (s ∷ ss) = Some s.mark

-- a font text of a stretch as a place, behind the line of the mark
abbrev pub place_with : Open → Stretch → FontText → Place
place_with o s f = record { before = s.line; kind = s.mark.kind; depth = o.documents; name = f.name; text = f.text; rest = f.rest }

-- A stretch is a place if its mark and the next one enclose it, no raw data is open there, and its text begins with a font text.
abbrev pub place_at : Open → Stretch → Option Mark → Option Place
place_at o s next = if encloses s.mark next && (o.raw == 0) then option_map (place_with o s) (font_in s.text) else None

-- ---- documents

-- bytes before the first place of some, or before the last bytes
abbrev pub behind_bytes : List ℕ → List Place → List ℕ → Document
behind_bytes bytes [] last = record { places = []; last = bytes ++ last }
behind_bytes bytes (p ∷ ps) last = record { places = record p { before = bytes ++ p.before } ∷ ps; last = last }

-- bytes before a document
abbrev pub prepended : List ℕ → Document → Document
prepended bytes d = behind_bytes bytes d.places d.last

-- a stretch before a document: it is its first place, or bytes before it
abbrev pub at_stretch : Stretch → Option Place → Document → Document
at_stretch s None d = prepended (s.line ++ s.text) d
at_stretch s (Some p) d = record { places = p ∷ d.places; last = d.last }

-- the document of stretches, where this is open
unfoldable pub document_from : Open → List Stretch → Document
document_from o [] = record { places = []; last = [] }
document_from o (s ∷ ss) = at_stretch s (place_at o s (next_mark ss)) (document_from (open_behind o s.mark) ss)

-- the document of a text before its first mark, and of stretches
abbrev pub document_of_stretches : Stretches → Document
document_of_stretches x = prepended x.0 (document_from none_open x.1)

-- the document of a text
unfoldable pub document_of : List ℕ → Document
document_of text = document_of_stretches (stretches text)

-- ---- one document behind another

-- what is open behind stretches
abbrev pub open_at_end : Open → List Stretch → Open
open_at_end o [] = o
open_at_end o (s ∷ ss) = open_at_end (open_behind o s.mark) ss

-- the last mark begins a part that may be a font
abbrev pub ends_in_part : List Stretch → Bool
ends_in_part [] = false
ends_in_part (s ∷ []) = begins_part s.mark.side && holds_fonts s.mark.kind
ends_in_part (s ∷ t ∷ ss) = ends_in_part (t ∷ ss)

-- a text leaves nothing open: no document, no raw data, and no part that may be a font
pub record IsClosed (text : List ℕ) : Type 0 where
  pub balanced : open_at_end none_open (stretches text).1 ≡ none_open
  pub part : ends_in_part (stretches text).1 ≡ false

-- a document behind another
abbrev pub followed : Document → Document → Document
followed d e = record { places = d.places ++ (prepended d.last e).places; last = (prepended d.last e).last }
