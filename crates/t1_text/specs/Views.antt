-- What the code reads, without where it lies in memory.
use Rattle.std.specs.Prelude.{ℕ, List, ◌++◌, codes, Some, None}
use Rattle.t1_text.specs.{declared.words.Phrase.{Phrase}, declared.words.Words.{Words}, declared.code_entry.CodeEntry.{CodeEntry}, declared.encoding_forms.Opening.{Opening as CodeOpening}}
use Rattle.t1_text.specs.{Encoding.{CodeEntry as CodesEntry, Put, Copy, Opening, Whole, OpensPuts, OpensNames}, Entry.{Body, Entry}}
use Rattle.t1_text.specs.declared.entry.Body as code
use Rattle.t1_text.specs.declared.code_entry.CodeEntry.TheVariants as entries
use Rattle.t1_text.specs.declared.encoding_forms.Opening.TheVariants as openings

-- the phrase, its words one blank apart
abbrev pub phrase_view : Phrase → List ℕ
phrase_view p = elim p.access [ None ↦ p.word.now | Some first ↦ first.now ++ codes " " ++ p.word.now ]

-- the word before a charstring, and the phrase behind it
abbrev pub words_view : Words → List ℕ × List ℕ
words_view w = (w.rd.items, w.phrase.items)

-- the words and the bytes of an entry
abbrev pub body_view : code.Body → Body
body_view b = record { rd = b.rd.now; bytes = b.bytes.now; phrase = phrase_view b.phrase }

-- an entry by its key and its body
abbrev pub entry_view : {K : Type 0} → K → code.Body → Entry K
entry_view k b = record { key = k; body = body_view b }

-- an entry of an Encoding
abbrev pub code_entry_view : CodeEntry → CodesEntry
code_entry_view (entries.Put c n) = Put c n.now
code_entry_view (entries.Copy from count to) = Copy from count to

-- how an Encoding begins
abbrev pub opening_view : CodeOpening → Opening
opening_view (openings.Word w) = Whole w.now
opening_view openings.Puts = OpensPuts
opening_view openings.Names = OpensNames
