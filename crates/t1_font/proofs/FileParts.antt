-- A flat text is cut where it is split.
use Rattle.std.proofs.{Common.{◌≡◌, ℕ, ◌-◌, ◌≤◌, List, ◌++◌, length, take, Ok, refl, ap, ◌∙◌, arith}, lemmas.List.{length-append, take_at}, lemmas.Bool.{leb-true}}
use Rattle.t1_bytes.specs.{declared.fault.BytesFault.{BytesFault}, declared.fault.BytesFault.TheVariants.{BadSegment, NoEexec, ShortCipher, Memory}, Eexec.{cipher_text}}
use Rattle.t1_bytes.{specs.{Split.{split, IsSplit, SplitFails}, Faults.{OrMemory}}, proofs.Splits.{said_split, said_fails}}
use Rattle.t1_font.specs.{Faults.{read_fault}, Answers.{Refused}, Pieces.{FlatPieces, flat_pieces}}

-- the parts of a split are the pieces of the flat text
pub split_pieces : (flat : List ℕ) (at : ℕ) (cipher : List ℕ) → IsSplit flat at cipher →
    (p : FlatPieces) × ((flat_pieces flat).read ≡ Ok p) × ((take at flat ≡ p.clear) × (cipher ≡ p.cipher))
unfolding flat_pieces
split_pieces flat at cipher s =
    (record { clear = take at flat; cipher = cipher }, rw ((split flat).again (at, cipher) (said_split flat at cipher s)) refl, (refl, refl))

-- what stands before the last bytes of a text
pub before_last : (flat text after : List ℕ) (at : ℕ) → flat ≡ text ++ after → length flat - length after ≡ at → take at flat ≡ text
before_last flat text after at whole place = ap (take at) whole ∙ take_at text after at (omega (arith, ap length whole, length-append text after, place))

-- a flat text is split within its bytes
pub split_within : (flat : List ℕ) (at : ℕ) (cipher : List ℕ) → IsSplit flat at cipher → at ≤ length flat
split_within flat at cipher s = omega (arith, s.place, ap length s.parts, length-append s.clear s.after)

-- the cipher of a split has at least four bytes
pub split_lead : (flat : List ℕ) (at : ℕ) (cipher : List ℕ) → IsSplit flat at cipher → 4 ≤ length cipher
unfolding cipher_text
split_lead flat at cipher s = leb-true 4 (length cipher) s.secret.2.1

-- where there is no split, the pieces are refused for the same reason
pub split_fails : (flat : List ℕ) (fault : BytesFault) → OrMemory (SplitFails flat) fault → Refused (read_fault fault) (flat_pieces flat).read
unfolding flat_pieces
split_fails flat Memory h = tt
split_fails flat NoEexec h = rw ((split flat).refused NoEexec (said_fails flat NoEexec h)) refl
split_fails flat ShortCipher h = rw ((split flat).refused ShortCipher (said_fails flat ShortCipher h)) refl
split_fails flat (BadSegment at) h = rw ((split flat).refused (BadSegment at) (said_fails flat (BadSegment at) h)) refl
