-- Documents as one: each page with all that it stands on, one behind the other under new numbers.
use Rattle.std.specs.{Prelude.{ℕ, ◌+◌, Bool, true, List, [], ◌∷◌, ◌++◌, take, drop, length, replicate, codes, decimal, if◌then◌else◌}}
use Rattle.std.specs.List.{flat_map, concat}
use Rattle.t1_document.specs.{declared.marks.Open.{Open}, Lines.{is_line_end}, Pooling.{free_start, longest}}
use Rattle.t1_dsc.specs.{declared.lines.Role.{Role}, declared.lines.Role.TheVariants.{Text}, Structure.{Line, same_role, lines_in, left_open}}
use Rattle.t1_dsc.specs.Parts.{PageLines, Parts, behind_header, has_pages, parts_of, comments_len, setup_len}

-- ---- whole lines

-- a text leaves no line without its end
abbrev pub is_ended : List ℕ → Bool
is_ended [] = true
is_ended (b ∷ []) = is_line_end b
is_ended (b ∷ c ∷ text) = is_ended (c ∷ text)

-- a text, with an LF behind it if it leaves a line without its end
abbrev pub ended : List ℕ → List ℕ
ended text = if is_ended text then text else text ++ 10 ∷ []

-- ---- lines that were structure

-- what stands before a line of another document: what was structure there becomes a comment
abbrev pub quiet_mark : Role → List ℕ
quiet_mark role = if same_role Text role then [] else codes "% "

-- a line of another document
abbrev pub quiet_line : Line → List ℕ
quiet_line l = quiet_mark l.role ++ l.text

-- the bytes of such lines
abbrev pub quiet : List Line → List ℕ
quiet lines = flat_map quiet_line lines

-- a word so many times
abbrev pub times : ℕ → List ℕ → List ℕ
times n word = concat (replicate n word)

-- the ends of what is open
abbrev pub closing : Open → List ℕ
closing o = times o.documents (codes "%%EndDocument\n") ++ times o.raw (codes "%%EndData\n")

-- ---- names of the joined document's own

-- what the names begin with: it stands neither in the fonts nor in a document
abbrev pub names_start : List ℕ → List (List ℕ) → List ℕ
names_start fonts documents = longest (free_start fonts) documents

-- one of the names as it is executed, without the slash
abbrev pub name_of : List ℕ → List ℕ → List ℕ
name_of start word = drop 1 start ++ word

-- where a page's state is kept, and the procedure before it, which keeps that of the interpreter and the depths of both stacks
abbrev pub procedure_begin : List ℕ → List ℕ
procedure_begin start =
    start ++ codes "kept 3 dict def\n" ++ start ++ codes "begin{" ++ name_of start (codes "kept begin/saved save def")
    ++ codes "/operands count 1 sub def/dicts countdictstack 1 sub def end}bind def\n"

-- the procedure behind a page: it pops what the page left on the stacks, and restores the state
abbrev pub procedure_end : List ℕ → List ℕ
procedure_end start =
    start ++ codes "end{count " ++ name_of start (codes "kept/operands get sub dup 0 gt{{pop}repeat}{pop}ifelse countdictstack ")
    ++ name_of start (codes "kept/dicts get sub dup 0 gt{{end}repeat}{pop}ifelse ") ++ name_of start (codes "kept/saved get restore}bind def\n")

-- ---- pages

-- what all pages of a document have: the bytes before a page's own lines, and those behind them
pub record Frame : Type 0 where
  pub head : List ℕ
  pub tail : List ℕ

-- the line that begins a page of this number
abbrev pub page_line : ℕ → List ℕ
page_line n = codes "%%Page: " ++ decimal n ++ codes " " ++ decimal n ++ codes "\n"

-- the lines of a page behind its comments
abbrev pub behind_comments : List Line → List Line
behind_comments lines = drop (comments_len lines) lines

-- the front of a page: its line, its comments, and the procedure that begins it, in its setup
unfoldable pub page_front : List ℕ → ℕ → List Line → List ℕ
page_front start n body = page_line n ++ quiet (take (comments_len body) body) ++ codes "%%BeginPageSetup\n" ++ name_of start (codes "begin\n")

-- lines, of which those of the setup come before its end
abbrev pub with_setup : List Line → List ℕ
with_setup lines = quiet (take (setup_len lines) lines) ++ codes "%%EndPageSetup\n" ++ quiet (drop (setup_len lines) lines)

-- What stands between the two procedures: the head of the page's document, and the page's own lines. A line that is ours stands between, since the page's
-- own line may end with CR, and the next one be an LF alone.
unfoldable pub page_inner : List ℕ → PageLines → List ℕ
page_inner head p = head ++ quiet p.own ++ codes "%\n" ++ with_setup (behind_comments p.body)

-- A page: its front, its document's head, its own lines, and its document's trailer. The setup ends where the page's own did, or where there was none
-- behind the head.
unfoldable pub page_bytes : List ℕ → Frame → ℕ → PageLines → List ℕ
page_bytes start frame n p = page_front start n p.body ++ page_inner frame.head p ++ (frame.tail ++ name_of start (codes "end\n"))

-- pages, numbered from this number on
abbrev pub pages_bytes : List ℕ → Frame → ℕ → List PageLines → List ℕ
pages_bytes start frame n [] = []
pages_bytes start frame n (p ∷ ps) = page_bytes start frame n p ++ pages_bytes start frame (n + 1) ps

-- ---- documents

-- the parts of a text of whole lines
abbrev pub parts_in : List ℕ → Parts
parts_in text = parts_of (behind_header (lines_in text))

-- the parts of a document
abbrev pub document_parts : List ℕ → Parts
document_parts text = parts_in (ended text)

-- what all pages of a document have
abbrev pub frame_of : Parts → Open → Frame
frame_of parts o = record { head = quiet parts.head; tail = quiet parts.trailer ++ closing o }

-- how many pages a text of whole lines becomes
abbrev pub count_in : List ℕ → ℕ
count_in text = length (parts_in text).pages

-- how many pages a document becomes
abbrev pub page_count : List ℕ → ℕ
page_count text = count_in (ended text)

-- how many pages a text of whole lines has: none, where it becomes one whole
abbrev pub told_in : List ℕ → ℕ
told_in text = if has_pages (behind_header (lines_in text)) then count_in text else 0

-- how many pages a document has
abbrev pub pages_told : List ℕ → ℕ
pages_told text = told_in (ended text)

-- the pages of a text of whole lines, numbered from this number on
unfoldable pub bytes_in : List ℕ → ℕ → List ℕ → List ℕ
bytes_in start n text = pages_bytes start (frame_of (parts_in text) (left_open text)) n (parts_in text).pages

-- the pages of a document
abbrev pub document_bytes : List ℕ → ℕ → List ℕ → List ℕ
document_bytes start n text = bytes_in start n (ended text)

-- the pages of documents
abbrev pub documents_bytes : List ℕ → ℕ → List (List ℕ) → List ℕ
documents_bytes start n [] = []
documents_bytes start n (d ∷ ds) = document_bytes start n d ++ documents_bytes start (n + page_count d) ds

-- the header, with this number of pages
unfoldable pub header : ℕ → List ℕ
header n = codes "%!PS-Adobe-3.0\n%%Pages: " ++ decimal n ++ codes "\n%%EndComments\n"

-- the prolog, with the procedures
unfoldable pub prolog : List ℕ → List ℕ
prolog start = codes "%%BeginProlog\n" ++ procedure_begin start ++ procedure_end start ++ codes "%%EndProlog\n"

-- a text of whole lines, of which none is structure, and which leaves nothing open
unfoldable pub quiet_in : List ℕ → List ℕ
quiet_in text = quiet (lines_in text) ++ closing (left_open text)

-- a text that is made such
abbrev pub quieted : List ℕ → List ℕ
quieted text = quiet_in (ended text)

-- the setup, with the fonts
unfoldable pub setup : List ℕ → List ℕ
setup fonts = codes "%%BeginSetup\n" ++ quieted fonts ++ codes "%%EndSetup\n"

-- how many pages there are
abbrev pub total : List (List ℕ) → ℕ
total [] = 0
total (d ∷ ds) = page_count d + total ds

-- documents as one
unfoldable pub joined_pages : List ℕ → List (List ℕ) → List ℕ
joined_pages fonts documents =
    header (total documents) ++ prolog (names_start fonts documents) ++ setup fonts ++ documents_bytes (names_start fonts documents) 1 documents
    ++ codes "%%Trailer\n%%EOF\n"
