-- Texts that are rewritten from left to right, one piece after another.
use Rattle.std.specs.{Prelude.{◌≡◌, ℕ, zero, suc, ◌≤◌, Bool, List, [], ◌∷◌, ◌++◌, length, take, drop}, List.{prefix_len}}
use Rattle.t1_bytes.specs.Laws.{AreBytes}

-- what is put in place of the first piece of a text, and the text behind that piece
abbrev pub Piece : Type 0
Piece = List ℕ → List ℕ × List ℕ

-- a text, at most n pieces of it, with what is put in place of each
abbrev pub pieces : Piece → ℕ → List ℕ → List ℕ
pieces piece zero text = []
pieces piece (suc n) [] = []
pieces piece (suc n) (b ∷ bs) = (piece (b ∷ bs)).0 ++ pieces piece n (piece (b ∷ bs)).1

-- a text with what is put in place of each piece
abbrev pub rewritten : Piece → List ℕ → List ℕ
rewritten piece text = pieces piece (length text) text

-- the longest front of a text whose bytes pass a test, and what stands behind it
abbrev pub parted : (ℕ → Bool) → List ℕ → List ℕ × List ℕ
parted p text = (take (prefix_len p text) text, drop (prefix_len p text) text)

-- a text that has bytes begins with a piece that has bytes; what is put in its place is no longer, and is bytes where it is
pub record TakesPiece (text : List ℕ) (x : List ℕ × List ℕ) : Type 0 where
  pub own : List ℕ
  pub whole : text ≡ own ++ x.1
  pub some : 1 ≤ length own
  pub short : length x.0 ≤ length own
  pub bytes : AreBytes own → AreBytes x.0

-- that of each text
abbrev pub TakesPieces : Piece → Type 0
TakesPieces piece = (b : ℕ) (bs : List ℕ) → TakesPiece (b ∷ bs) (piece (b ∷ bs))
