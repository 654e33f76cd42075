-- The texts that are written: PFB segments, lines of hexadecimal digits, the trailer.
use Rattle.std.specs.Prelude.{ℕ, zero, suc, ◌/◌, ◌%◌, ◌&&◌, nat_le, List, [], ◌∷◌, ◌++◌, length, get_or, codes, Option, Some, None, if◌then◌else◌}
use Rattle.byteorder.specs.Endian.{little_bytes}
use Rattle.hex.specs.Hex.{lower_digits}
use Rattle.t1_bytes.specs.{declared.form.Form.{Form}, declared.form.Form.TheVariants.{Pfa, Pfb}, Limits.{file_limit}}

-- a segment of a kind: 128, the kind, the length in four bytes, least significant first, and the bytes (Technical Note 5040)
abbrev pub segment_text : ℕ → List ℕ → List ℕ
segment_text kind bytes = (128 ∷ kind ∷ []) ++ (little_bytes 4 (length bytes) ++ bytes)

-- a text segment of the clear part, a binary one of the cipher, a text one of the trailer, and the end
abbrev pub pfb_text : List ℕ → List ℕ → List ℕ → List ℕ
pfb_text clear cipher trailer = segment_text 1 clear ++ (segment_text 2 cipher ++ (segment_text 1 trailer ++ (128 ∷ 3 ∷ [])))

-- two hexadecimal digits in lower case
abbrev pub hex_byte : ℕ → List ℕ
hex_byte b = get_or lower_digits (b / 16) 0 ∷ get_or lower_digits (b % 16) 0 ∷ []

-- the digits of bytes after the beginning of a line that has room for n more of them, with LF after each line
abbrev pub hex_rest : ℕ → List ℕ → List ℕ
hex_rest n [] = 10 ∷ []
hex_rest zero (b ∷ bs) = 10 ∷ (hex_byte b ++ hex_rest 31 bs)
hex_rest (suc n) (b ∷ bs) = hex_byte b ++ hex_rest n bs

-- lines of 64 digits in lower case, with LF after each, a short last one too; of no bytes, no line
abbrev pub hex_lines : List ℕ → List ℕ
hex_lines [] = []
hex_lines (b ∷ bs) = hex_byte b ++ hex_rest 31 bs

-- 64 zeros
abbrev pub zero_line : List ℕ
zero_line = codes "0000000000000000000000000000000000000000000000000000000000000000"

-- n lines of 64 zeros
abbrev pub zero_lines : ℕ → List ℕ
zero_lines zero = []
zero_lines (suc n) = zero_line ++ (10 ∷ zero_lines n)

-- 8 lines of 64 zeros, and `cleartomark` and LF (Adobe Type 1 Font Format 1.1, chapter 2)
abbrev pub trailer : List ℕ
trailer = zero_lines 8 ++ (codes "cleartomark" ++ 10 ∷ [])

-- a file of a clear part and a cipher
abbrev pub file_text : Form → List ℕ → List ℕ → List ℕ
file_text Pfa clear cipher = clear ++ (hex_lines cipher ++ trailer)
file_text Pfb clear cipher = pfb_text clear cipher trailer

-- a file of these, if each is within the limit of files
abbrev pub file_within : Form → List ℕ → List ℕ → Option (List ℕ)
file_within form clear cipher = if nat_le (length clear) file_limit && nat_le (length cipher) file_limit then Some (file_text form clear cipher) else None
