-- Texts whose white space is squeezed. NUL and FF, which are white space too, stay as they are.
use Rattle.std.specs.{Prelude.{ℕ, suc, ◌==◌, ◌&&◌, ◌||◌, not, Bool, List, [], ◌∷◌, if◌then◌else◌}, List.{list_any}}
use Rattle.t1_bytes.specs.Eexec.{is_blank, blank_comes}
use Rattle.t1_text.specs.Rewriting.{Piece, parted, rewritten}

-- CR or LF
abbrev pub ends_line : ℕ → Bool
ends_line b = b == 13 || b == 10

-- what becomes of a run of blanks, tabs, CR and LF: LF if it has CR or LF, else a blank
abbrev pub one_space : List ℕ → List ℕ
one_space run = if list_any ends_line run then 10 ∷ [] else 32 ∷ []

-- any other byte
abbrev pub is_solid : ℕ → Bool
is_solid b = not (is_blank b)

-- a run of blanks, tabs, CR and LF becomes one byte; other bytes stay
unfoldable pub squeezed_piece : Piece
squeezed_piece text =
    if blank_comes text then (one_space (parted is_blank text).0, (parted is_blank text).1) else parted is_solid text

-- a byte stays: it is no white space, or it is one blank or LF before other bytes
abbrev pub stays : ℕ → List ℕ → Bool
stays b bs = not (is_blank b) || ((b == 32 || b == 10) && not (blank_comes bs))

-- how many bytes from the front on stay
abbrev pub staying : List ℕ → ℕ
staying [] = 0
staying (b ∷ bs) = if stays b bs then suc (staying bs) else 0

-- a text with each longest run of blanks, tabs, CR and LF made one byte
abbrev pub squeezed : List ℕ → List ℕ
squeezed text = rewritten squeezed_piece text
