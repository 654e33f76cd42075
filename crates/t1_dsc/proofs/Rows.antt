-- Worked rows of the definitions, computed.
use Rattle.std.{proofs.Common.{◌≡◌, ℕ, false, List, [], ◌∷◌, refl}, specs.Prelude.{codes}}
use Rattle.t1_document.specs.{Lines.{lines_of}, Marks.{mark_of, kind_of}, Pooling.{longer}}
use Rattle.t1_dsc.specs.{declared.lines.Role.{Role}, declared.lines.Role.TheVariants.{Text, Page, Trailer, SetupEnd, Structure}}
use Rattle.t1_dsc.specs.{Structure.{Line, role_of, lines_from, open_from, lines_in, left_open}, Parts.{header_len, parts_of, has_pages, comments_len, setup_len}}
use Rattle.t1_dsc.specs.Joining.{ended, quiet, closing}

-- ---- what a line is

a_page : role_of (codes "%%Page: 1 1\n") ≡ Page
unfolding role_of
a_page = refl

-- `%%Pages` is no page
how_many : role_of (codes "%%Pages: 1\n") ≡ Structure
unfolding role_of
how_many = refl

its_box : role_of (codes "%%PageBoundingBox: 0 0 1 1\n") ≡ Text
unfolding role_of
its_box = refl

an_end : role_of (codes "%%EOF") ≡ Trailer
unfolding role_of
an_end = refl

its_setup : role_of (codes "%%EndPageSetup\r\n") ≡ SetupEnd
unfolding role_of
its_setup = refl

-- a mark of a font is no structure
a_font : role_of (codes "%%BeginFont: CMR10\n") ≡ Text
unfolding role_of
a_font = refl

-- ---- lines

abbrev line : List ℕ → Role → Line
line text role = record { text = text; role = role }

-- inside an embedded document a page is text
inside : lines_in (codes "%%BeginDocument: a\n%%Page: 1 1\n%%EndDocument\n%%Page: 2 2\r")
    ≡ line (codes "%%BeginDocument: a\n") Text ∷ line (codes "%%Page: 1 1\n") Text ∷ line (codes "%%EndDocument\n") Text
    ∷ line (codes "%%Page: 2 2\r") Page ∷ []
unfolding lines_of lines_from role_of mark_of kind_of
inside = refl

-- data that is not ended is left open
data_left : left_open (codes "%%BeginDocument\n%%BeginData: 1\n%%EndDocument\n") ≡ record { documents = 0; raw = 1 }
unfolding lines_of open_from mark_of kind_of
data_left = refl

-- ---- parts

abbrev text_line : List ℕ → Line
text_line text = line text Text

abbrev page_of : List ℕ → Line
page_of text = line text Page

abbrev end_of : List ℕ → Line
end_of text = line text Trailer

two_pages :
    parts_of (text_line (codes "a") ∷ page_of (codes "1") ∷ text_line (codes "b") ∷ page_of (codes "2") ∷ end_of (codes "c") ∷ text_line (codes "d") ∷ [])
    ≡ record {
      head = text_line (codes "a") ∷ [];
      pages = record { own = page_of (codes "1") ∷ []; body = text_line (codes "b") ∷ [] }
          ∷ record { own = page_of (codes "2") ∷ []; body = [] } ∷ [];
      trailer = end_of (codes "c") ∷ text_line (codes "d") ∷ [];
    }
two_pages = refl

-- no page, or one behind a trailer: one page whole
no_page : parts_of (text_line (codes "a") ∷ []) ≡ record { head = []; pages = record { own = []; body = text_line (codes "a") ∷ [] } ∷ []; trailer = [] }
no_page = refl

late_page : has_pages (page_of (codes "1") ∷ end_of (codes "c") ∷ page_of (codes "2") ∷ []) ≡ false
late_page = refl

-- the header ends before what is no comment, begins a part, or asks for a resource
header_ends : header_len (text_line (codes "%!PS\n") ∷ line (codes "%%Pages: 2\n") Structure ∷ text_line (codes "%%IncludeResource: font A\n") ∷ []) ≡ 2
header_ends = refl

own_comments : comments_len (text_line (codes "%%PageMedia: A4\n") ∷ text_line (codes "%%+ 1\n") ∷ text_line (codes "%%PageTrailer\n") ∷ []) ≡ 2
own_comments = refl

own_setup : setup_len (text_line (codes "a\n") ∷ line (codes "%%EndPageSetup\n") SetupEnd ∷ []) ≡ 1
own_setup = refl

no_setup : setup_len (text_line (codes "a\n") ∷ []) ≡ 0
no_setup = refl

-- ---- what becomes of lines

-- what was structure becomes a comment
marked : quiet (text_line (codes "%%BeginFont\r") ∷ line (codes "%%EndProlog\n") Structure ∷ end_of (codes "%%EOF\n") ∷ [])
    ≡ codes "%%BeginFont\r% %%EndProlog\n% %%EOF\n"
marked = refl

-- a text gets an LF where a line lacks its end
whole_already : ended (codes "a\r") ≡ codes "a\r"
whole_already = refl

made_whole : ended (codes "a\nb") ≡ codes "a\nb\n"
made_whole = refl

closed : closing (record { documents = 2; raw = 1 }) ≡ codes "%%EndDocument\n%%EndDocument\n%%EndData\n"
closed = refl

the_longer : longer (codes "/pool:") (codes "/pool::") ≡ codes "/pool::"
the_longer = refl
