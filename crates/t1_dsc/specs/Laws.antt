-- The laws of the joined document, each the contract of a function in `laws`.
use Rattle.std.specs.{Prelude.{◌≡◌, ℕ, zero, suc, ◌+◌, true, false, List, [], ◌∷◌, ◌++◌, take, drop, codes, decimal, if◌then◌else◌}, List.{flat_map, list_all, AllByRecursion}}
use Rattle.t1_grammar.specs.{Grammar.{fixed}, Places.{occurs}}
use Rattle.t1_document.specs.{declared.marks.Open.{Open}, Documents.{none_open}}
use Rattle.t1_dsc.specs.{declared.lines.Role.TheVariants.{Text}, Structure.{Line, is_clear, role_in, same_role, lines_in, left_open}}
use Rattle.t1_dsc.specs.Parts.{PageLines, Parts, is_header, header_len, comments_len, setup_len}
use Rattle.t1_dsc.specs.Joining.{Frame, ended, quiet, quiet_line, name_of, names_start, behind_comments, document_parts, page_line, page_bytes, total, joined_pages}

-- the bytes of lines
abbrev pub texts : List Line → List ℕ
texts lines = flat_map (λ l. l.text) lines

-- the lines of pages, each with the line that begins it
abbrev pub page_lines : List PageLines → List Line
page_lines ps = flat_map (λ p. p.own ++ p.body) ps

-- the lines of parts, in the order of the document
abbrev pub part_lines : Parts → List Line
part_lines parts = parts.head ++ (page_lines parts.pages ++ parts.trailer)

-- The header of a document has comments alone, and it, the head, the pages and the trailer are the whole document, byte for byte.
pub record PartsAreWhole : Type 0 where
  pub comments : (text : List ℕ) → list_all (λ l. is_header l.text) (take (header_len (lines_in (ended text))) (lines_in (ended text))) ≡ true
  pub whole : (text : List ℕ) →
      texts (take (header_len (lines_in (ended text))) (lines_in (ended text))) ++ texts (part_lines (document_parts text)) ≡ ended text

-- A line stays as it is, but for `% ` before a line of structure; so each line inside an embedded document and inside data stays.
pub record LinesStay : Type 0 where
  pub text : (l : Line) → same_role Text l.role ≡ true → quiet_line l ≡ l.text
  pub structure : (l : Line) → same_role Text l.role ≡ false → quiet_line l ≡ codes "% " ++ l.text
  pub inside : (o : Open) (line : List ℕ) → is_clear o ≡ false → role_in o line ≡ Text

-- The bytes of a page: its line, its comments, and between the two procedures its document's head, its own line, its setup and its text, and then its
-- document's trailer; comments, setup and text are all lines of the page, in their order.
pub record PagesHold : Type 0 where
  pub bytes : (start : List ℕ) (frame : Frame) (n : ℕ) (p : PageLines) →
      page_bytes start frame n p
      ≡ page_line n ++ (quiet (take (comments_len p.body) p.body) ++ (codes "%%BeginPageSetup\n" ++ (name_of start (codes "begin\n") ++ (frame.head
      ++ (quiet p.own ++ (codes "%\n" ++ (quiet (take (setup_len (behind_comments p.body)) (behind_comments p.body)) ++ (codes "%%EndPageSetup\n"
      ++ (quiet (drop (setup_len (behind_comments p.body)) (behind_comments p.body)) ++ (frame.tail ++ name_of start (codes "end\n")))))))))))
  pub lines : (p : PageLines) →
      take (comments_len p.body) p.body
      ++ (take (setup_len (behind_comments p.body)) (behind_comments p.body) ++ drop (setup_len (behind_comments p.body)) (behind_comments p.body)) ≡ p.body

-- a start of names stands neither in the fonts nor in any of the documents
pub record NamesAreFree : Type 0 where
  pub fonts : (fonts : List ℕ) (documents : List (List ℕ)) → occurs (fixed (names_start fonts documents)) fonts ≡ false
  pub documents : (fonts : List ℕ) (documents : List (List ℕ)) →
      AllByRecursion (λ d. occurs (fixed (names_start fonts documents)) d ≡ false) documents

-- ---- the joined document, read again

-- the lines of structure among lines, each in its bytes
abbrev pub structure_lines : List Line → List (List ℕ)
structure_lines [] = []
structure_lines (l ∷ ls) = if same_role Text l.role then structure_lines ls else l.text ∷ structure_lines ls

-- the structure before the pages of a document that has so many
abbrev pub front_structure : ℕ → List (List ℕ)
front_structure n =
    (codes "%%Pages: " ++ decimal n ++ codes "\n") ∷ codes "%%EndComments\n" ∷ codes "%%BeginProlog\n" ∷ codes "%%EndProlog\n"
    ∷ codes "%%BeginSetup\n" ∷ codes "%%EndSetup\n" ∷ []

-- the structure of so many pages, numbered from this number on: the line of each, and its setup
abbrev pub pages_structure : ℕ → ℕ → List (List ℕ)
pages_structure first zero = []
pages_structure first (suc more) =
    page_line first ∷ codes "%%BeginPageSetup\n" ∷ codes "%%EndPageSetup\n" ∷ pages_structure (first + 1) more

-- The joined document, read again, leaves nothing open, and its structure is one header, one prolog, one setup, as many pages as the documents become,
-- numbered from 1 on, and one trailer.
pub record PagesAreRead : Type 0 where
  pub closed : (fonts : List ℕ) (documents : List (List ℕ)) → left_open (joined_pages fonts documents) ≡ none_open
  pub structure : (fonts : List ℕ) (documents : List (List ℕ)) →
      structure_lines (lines_in (joined_pages fonts documents))
      ≡ front_structure (total documents) ++ (pages_structure 1 (total documents) ++ codes "%%Trailer\n" ∷ codes "%%EOF\n" ∷ [])
