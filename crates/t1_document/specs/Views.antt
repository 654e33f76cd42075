-- What code keeps, as values.
use Rattle.std.specs.Prelude.{map}
use Rattle.t1_document.specs.{declared.stretches.Stretch.{Stretch as CodeStretch}, declared.fonts.FontText.{FontText as CodeFontText}, declared.documents.Place.{Place as CodePlace}}
use Rattle.t1_document.specs.{declared.documents.Document.{Document as CodeDocument}, declared.entries.Entry.{Entry as CodeEntry}}
use Rattle.t1_document.specs.{Stretches.{Stretch}, Fonts.{FontText}, Documents.{Place, Document}, Pooling.{Entry}}

-- a stretch of borrowed bytes
abbrev pub stretch_view : CodeStretch → Stretch
stretch_view s = record { mark = s.mark; line = s.line.now; text = s.text.now }

-- a font text of borrowed bytes
abbrev pub font_view : CodeFontText → FontText
font_view f = record { name = f.name.now; text = f.text.now; rest = f.rest.now }

-- a place of borrowed bytes
abbrev pub place_view : CodePlace → Place
place_view p = record { before = p.before.now; kind = p.kind; depth = p.depth; name = p.name.now; text = p.text.now; rest = p.rest.now }

-- a document of borrowed bytes
abbrev pub document_view : CodeDocument → Document
document_view d = record { places = map place_view d.places.items; last = d.last.now }

-- an entry whose text is borrowed
abbrev pub entry_view : CodeEntry → Entry
entry_view e = record { name = e.name.items; text = e.text.now; answers = e.answers }
