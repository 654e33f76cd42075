-- The flat text of a file (Technical Note 5040).
use Rattle.std.specs.{Prelude.{◌≡◌, ℕ, ◌-◌, ◌==◌, Bool, true, false, List, [], ◌∷◌, ◌++◌, length, Result}, List.{flat_map}}
use Rattle.t1_grammar.specs.Formats.{Format, give, ◌>>=◌, table}
use Rattle.t1_bytes.specs.Segments.{AreSegments, SegmentComes, EndComes, segment, end, segment_eats, segment_apart}

-- ---- by its bytes

-- a file consists of segments: its first byte is 128
abbrev pub IsSegmented : List ℕ → Type 0
IsSegmented file = (rest : List ℕ) × (file ≡ 128 ∷ rest)

-- the flat text of a file: of one that begins with 128 its segments' data up to their end, joined in order, of any other the file itself
pub data IsFlat (file flat : List ℕ) : Type 0 where
  itself : (IsSegmented file → ⊥) → flat ≡ file → IsFlat file flat
  of_segments : (text left : List ℕ) (pieces : List (List ℕ)) →
      IsSegmented file → file ≡ text ++ left → AreSegments text pieces → EndComes left → flat ≡ flat_map (λ piece. piece) pieces → IsFlat file flat

-- a file that begins with 128 is bad at an offset: segments stand up to there, and there stands neither a segment nor the end
pub record IsBad (file : List ℕ) (at : ℕ) : Type 0 where
  pub text : List ℕ
  pub left : List ℕ
  pub pieces : List (List ℕ)
  pub segmented : IsSegmented file
  pub parts : file ≡ text ++ left
  pub place : at ≡ length text
  pub segments : AreSegments text pieces
  pub no_segment : SegmentComes left → ⊥
  pub no_end : EndComes left → ⊥

-- ---- as it is read

-- the first byte is 128
abbrev pub starts_segment : List ℕ → Bool
starts_segment [] = false
starts_segment (b ∷ bs) = b == 128

-- The data of a file's segments up to their end, joined in order; what stands behind the end is ignored.
-- The fault is the place of the first header that is neither a segment's nor the end.
abbrev pub joined : List ℕ → Format ℕ (List ℕ)
joined file = do
  segments ← table (λ left. length file - length left) segment end segment_eats segment_apart file
  give (flat_map (λ piece. piece) segments.0)

-- of a file that consists of segments, their data; of any other, the file itself
abbrev pub flat_when : Bool → List ℕ → Format ℕ (List ℕ)
flat_when true file = joined file
flat_when false file = give file

-- the flat text of a file, or the place where it is bad
abbrev pub flat_text : List ℕ → Format ℕ (List ℕ)
flat_text file = flat_when (starts_segment file) file

-- what is read: the flat text, or the place
abbrev pub flat_of : List ℕ → Result (List ℕ) ℕ
flat_of file = (flat_text file).read
