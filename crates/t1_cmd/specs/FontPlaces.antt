-- The places of fonts in documents, as they are listed.
use Rattle.std.specs.{Prelude.{◌≡◌, ℕ, ◌+◌, List, [], ◌∷◌, ◌++◌, length, get_or, filter, codes, Bool, true, false, Option, Some, Result, Ok, Err}, Fmt.{decimal}, FinMap.{len}}
use Rattle.t1_font.specs.{declared.fault.ReadFault.{ReadFault}, FontValue.{FontValue}, ReadFont.{read_font_widely}}
use Rattle.t1_join.specs.Shown.{shown}
use Rattle.t1_document.specs.{declared.joins.Outcome.{Outcome}, declared.joins.Outcome.TheVariants.{Stays}, Documents.{Place, place_bytes, document_of}}
use Rattle.t1_document.specs.Joins.{Outcomes, AreOutcomes, kept_text, names_from, places_of_all}
use Rattle.t1_cmd.specs.declared.faults.Reason.{Reason}

-- ---- the line of a place

-- how many glyphs the font has that was read
abbrev pub glyph_count : Result FontValue ReadFault → ℕ
glyph_count (Ok f) = len f.glyphs
glyph_count (Err fault) = 0

-- what becomes of the fonts of a name
abbrev pub outcome_text : Option Outcome → List ℕ
outcome_text (Some (Stays why)) = codes "kept: " ++ kept_text why
outcome_text o = codes "joined"

-- the line of a place: the label of its document, its offset there, the name of its font, how many glyphs that has, the depth, and what becomes of the name
abbrev pub place_line : List ℕ → ℕ → Place → Option Outcome → List ℕ
place_line label at p o = label ++ codes ": " ++ decimal at ++ codes " " ++ shown p.name ++ codes " " ++ decimal (glyph_count (read_font_widely p.text))
    ++ codes " " ++ decimal p.depth ++ codes " " ++ outcome_text o ++ 10 ∷ []

-- ---- the lines of documents

-- the lines of places that stand behind so many bytes of their document
abbrev pub place_lines : Outcomes → List ℕ → ℕ → List Place → List ℕ
place_lines outcomes label at [] = []
place_lines outcomes label at (p ∷ ps) =
    place_line label (at + length p.before) p (outcomes p.name) ++ place_lines outcomes label (at + length (place_bytes p)) ps

-- the lines of the places of documents, counted from this one, each with its label; a document behind the last label has an empty one
abbrev pub document_lines : Outcomes → List (List ℕ) → ℕ → List (List ℕ) → List ℕ
document_lines outcomes labels i [] = []
document_lines outcomes labels i (d ∷ ds) =
    place_lines outcomes (get_or labels i []) 0 (document_of d).places ++ document_lines outcomes labels (i + 1) ds

-- ---- counts

-- the fonts of a name keep their texts
abbrev pub is_kept : Option Outcome → Bool
is_kept (Some (Stays why)) = true
is_kept o = false

-- how many places, how many names, and how many of these keep their fonts
abbrev pub count_line : Outcomes → List Place → List ℕ
count_line outcomes ps = decimal (length ps) ++ codes " places, " ++ decimal (length (names_from [] ps)) ++ codes " names, "
    ++ decimal (length (filter (λ name. is_kept (outcomes name)) (names_from [] ps))) ++ codes " kept\n"

-- the lines of the places of documents, and one that counts them
abbrev pub ListsTo : List (List ℕ) → List (List ℕ) → Result (List ℕ) Reason → Type 0
ListsTo labels documents (Ok out) = (outcomes : Outcomes) × AreOutcomes (places_of_all documents) outcomes
    × (out ≡ document_lines outcomes labels 0 documents ++ count_line outcomes (places_of_all documents))
ListsTo labels documents (Err r) = ⊥
