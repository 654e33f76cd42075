-- Worked rows of the definitions, computed.
use Rattle.std.{proofs.Common.{◌≡◌, ℕ, true, false, List, [], ◌∷◌, ◌++◌, Some, None, refl}, specs.{Prelude.{codes, if◌then◌else◌}, Str.{bytes_eq}}}
use Rattle.t1_document.specs.{declared.marks.Side.TheVariants.{Begin, End}, declared.marks.Kind.TheVariants.{Font, ProcSet, Resource, Document, Data, Binary}, declared.marks.Side.{Side}}
use Rattle.t1_document.specs.{declared.marks.Kind.{Kind}, declared.marks.Mark.{Mark}, Documents.{Place, none_open, open_at_end, encloses}}
use Rattle.t1_document.specs.{Rewriting.{NewTexts, fated, fated_bytes, level_fates}, Lines.{lines_of, line_of, line_len, breaks}, Marks.{mark_of, kind_of}, Stretches.{Stretch, stretches}}

-- ---- lines

no_lines : lines_of [] ≡ []
unfolding lines_of
no_lines = refl

-- LF, CR and CR LF each end a line; LF before CR ends two
three_ends : lines_of (codes "a" ++ 10 ∷ (codes "b" ++ 13 ∷ (codes "c" ++ 13 ∷ 10 ∷ (10 ∷ 13 ∷ codes "d"))))
    ≡ (codes "a" ++ 10 ∷ []) ∷ (codes "b" ++ 13 ∷ []) ∷ (codes "c" ++ 13 ∷ 10 ∷ []) ∷ (10 ∷ []) ∷ (13 ∷ []) ∷ codes "d" ∷ []
unfolding lines_of
three_ends = refl

first_of_two : line_of (codes "ab" ++ 13 ∷ 10 ∷ codes "c") ≡ (codes "ab" ++ 13 ∷ 10 ∷ [], codes "c")
unfolding line_len
first_of_two = refl

-- a line ends behind CR, but not between CR and LF
between : breaks (codes "a" ++ 13 ∷ []) (codes "b") ≡ true
between = refl

within : breaks (codes "a" ++ 13 ∷ []) (10 ∷ []) ≡ false
within = refl

unended : breaks (codes "a") (codes "b") ≡ false
unended = refl

-- ---- marks

of_dvips : mark_of (codes "%%BeginFont: CMR10" ++ 10 ∷ []) ≡ Some (record { side = Begin; kind = Font })
unfolding mark_of kind_of
of_dvips = refl

of_pdftops : mark_of (codes "%%BeginResource: font CMR10") ≡ Some (record { side = Begin; kind = Resource })
unfolding mark_of kind_of
of_pdftops = refl

of_gnuplot : mark_of (codes "%%EndProcSet" ++ 13 ∷ 10 ∷ []) ≡ Some (record { side = End; kind = ProcSet })
unfolding mark_of kind_of
of_gnuplot = refl

of_figures : mark_of (codes "%%BeginDocument: a.eps") ≡ Some (record { side = Begin; kind = Document })
unfolding mark_of kind_of
of_figures = refl

of_bytes : mark_of (codes "%%EndBinary") ≡ Some (record { side = End; kind = Binary })
unfolding mark_of kind_of
of_bytes = refl

-- `%%BeginDefaults` has no kind of these, and neither has what psjoin makes of a mark
other_begin : mark_of (codes "%%BeginDefaults") ≡ None
unfolding mark_of kind_of
other_begin = refl

quieted : mark_of (codes "% %BeginFont: CMR10") ≡ None
unfolding mark_of kind_of
quieted = refl

indented : mark_of (codes " %%BeginFont: CMR10") ≡ None
unfolding mark_of kind_of
indented = refl

-- ---- stretches

-- a mark inside a line is none; a mark behind CR is one
two_stretches : stretches (codes "%!" ++ 10 ∷ (codes "%%BeginData" ++ 13 ∷ (codes "x %%EndData" ++ 13 ∷ codes "%%EndData")))
    ≡ (
      codes "%!" ++ 10 ∷ [],
      record { mark = record { side = Begin; kind = Data }; line = codes "%%BeginData" ++ 13 ∷ []; text = codes "x %%EndData" ++ 13 ∷ [] }
          ∷ record { mark = record { side = End; kind = Data }; line = codes "%%EndData"; text = [] } ∷ [],
    )
unfolding stretches lines_of mark_of kind_of
two_stretches = refl

one_text : stretches (codes "%!" ++ 10 ∷ codes "showpage") ≡ (codes "%!" ++ 10 ∷ codes "showpage", [])
unfolding stretches lines_of mark_of kind_of
one_text = refl

-- ---- what is open

abbrev of : Kind → Side → Mark
of kind side = record { side = side; kind = kind }

abbrev stretch_of : Mark → Stretch
stretch_of mark = record { mark = mark; line = []; text = [] }

-- an end before any begin closes nothing, and data and binary data are counted together
opened : open_at_end none_open (stretch_of (of Document End) ∷ stretch_of (of Document Begin) ∷ stretch_of (of Data Begin) ∷ stretch_of (of Binary Begin)
    ∷ stretch_of (of Data End) ∷ stretch_of (of Font Begin) ∷ []) ≡ record { documents = 1; raw = 1 }
opened = refl

-- only the end of the same kind closes a part that may be a font
closes_own : encloses (of Font Begin) (Some (of Font End)) ≡ true
closes_own = refl

closes_other : encloses (of Font Begin) (Some (of Resource End)) ≡ false
closes_other = refl

closes_documents : encloses (of Document Begin) (Some (of Document End)) ≡ false
closes_documents = refl

-- ---- new texts

abbrev place_in : ℕ → List ℕ → List ℕ → Place
place_in depth name text = record { before = codes "-"; kind = Font; depth = depth; name = name; text = text; rest = codes "." }

abbrev three : List Place
three = place_in 1 (codes "A") (codes "1") ∷ place_in 0 (codes "A") (codes "2") ∷ place_in 0 (codes "A") (codes "3") ∷ place_in 0 (codes "B") (codes "4") ∷ []

abbrev only_a : NewTexts
only_a name = if bytes_eq name (codes "A") then Some (codes "N") else None

-- each place of A gets the new text, and B keeps its own
all_get_it : fated_bytes (level_fates only_a three) (codes "!") ≡ codes "-N.-N.-N.-4.!"
unfolding fated_bytes
all_get_it = refl

levelled_so : fated (level_fates only_a three) (codes "!") ≡ record {
  places = place_in 1 (codes "A") (codes "N") ∷ place_in 0 (codes "A") (codes "N") ∷ place_in 0 (codes "A") (codes "N")
      ∷ place_in 0 (codes "B") (codes "4") ∷ [];
  last = codes "!";
}
unfolding fated
levelled_so = refl
