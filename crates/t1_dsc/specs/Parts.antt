-- The parts of a document: its header, its head, its pages and its trailer.
use Rattle.std.specs.{Prelude.{ℕ, ◌&&◌, ◌||◌, not, Bool, List, [], ◌∷◌, ◌++◌, take, drop, codes, Option, Some, None, if◌then◌else◌}}
use Rattle.std.specs.{List.{list_any, prefix_len}, Option.{option_to_list}}
use Rattle.t1_document.specs.Marks.{begins_with}
use Rattle.t1_dsc.specs.{declared.lines.Role.{Role}, declared.lines.Role.TheVariants.{Page, Trailer, SetupEnd}, Structure.{Line, same_role}}

-- ---- the first line of a role

-- how many lines come before the first one of a role
abbrev pub len_before : Role → List Line → ℕ
len_before role lines = prefix_len (λ l. not (same_role role l.role)) lines

-- the lines before the first one of a role
abbrev pub before : Role → List Line → List Line
before role lines = take (len_before role lines) lines

-- the lines from the first one of a role on
abbrev pub from : Role → List Line → List Line
from role lines = drop (len_before role lines) lines

-- some line has this role
abbrev pub has : Role → List Line → Bool
has role lines = list_any (λ l. same_role role l.role) lines

-- ---- header

-- a comment as the header of a document has them: no beginning of a part or of a page, and no demand
abbrev pub is_header : List ℕ → Bool
is_header line =
    (begins_with (codes "%%") line || begins_with (codes "%!") line)
    && not (begins_with (codes "%%Begin") line || begins_with (codes "%%Page:") line || begins_with (codes "%%Include") line)

-- how many lines the header has: the comments that come first
abbrev pub header_len : List Line → ℕ
header_len lines = prefix_len (λ l. is_header l.text) lines

-- the lines behind the header
abbrev pub behind_header : List Line → List Line
behind_header lines = drop (header_len lines) lines

-- ---- pages

-- a page: the line that begins it, if there is one, and the lines behind that
pub record PageLines : Type 0 where
  pub own : List Line
  pub body : List Line

-- the page that lines begin with, up to the next one
abbrev pub page_at : List Line → Option PageLines
page_at [] = None
page_at (l ∷ ls) = if same_role Page l.role then Some (record { own = l ∷ []; body = before Page ls }) else None

-- the pages of lines
abbrev pub pages_in : List Line → List PageLines
pages_in [] = []
pages_in (l ∷ ls) = option_to_list (page_at (l ∷ ls)) ++ pages_in ls

-- the head of a document, which each page stands on, its pages, and its trailer
pub record Parts : Type 0 where
  pub head : List Line
  pub pages : List PageLines
  pub trailer : List Line

-- the lines have pages, and none stands behind the beginning of a trailer
abbrev pub has_pages : List Line → Bool
has_pages lines = has Page (before Trailer lines) && not (has Page (from Trailer lines))

-- The parts of the lines behind a header: the head ends before the first page, and the trailer begins where the first one does. Lines that have
-- no such pages are one page.
abbrev pub parts_of : List Line → Parts
parts_of lines =
    if has_pages lines
    then record { head = before Page (before Trailer lines); pages = pages_in (before Trailer lines); trailer = from Trailer lines }
    else record { head = []; pages = record { own = []; body = lines } ∷ []; trailer = [] }

-- ---- inside a page

-- a comment that speaks of its page
abbrev pub is_page_comment : List ℕ → Bool
is_page_comment line = (begins_with (codes "%%Page") line && not (begins_with (codes "%%PageTrailer") line)) || begins_with (codes "%%+") line

-- how many comments come first
abbrev pub comments_len : List Line → ℕ
comments_len lines = prefix_len (λ l. is_page_comment l.text) lines

-- how many lines the setup of a page has: those before the first one that ends it, or none
abbrev pub setup_len : List Line → ℕ
setup_len lines = if has SetupEnd lines then len_before SetupEnd lines else 0
