-- Worked rows of the definitions, computed.
use Rattle.std.{proofs.Common.{◌≡◌, [], ◌∷◌, ◌++◌, length, take, Ok, Err, refl}, specs.Prelude.{codes, replicate}}
use Rattle.t1_bytes.specs.{declared.fault.BytesFault.TheVariants.{NoEexec, ShortCipher}, declared.form.Form.TheVariants.{Pfa, Pfb}, White.{gap}, FlatText.{flat_of}, Eexec.{eexec_marker, cipher_text}}
use Rattle.t1_bytes.specs.{Split.{split, split_of}, Texts.{hex_lines, trailer, pfb_text, file_text}}
use Rattle.t1_grammar.specs.{Grammar.{first_at}, Tables.{table_within}}

-- ---- flat texts

end_first : flat_of (0x80 ∷ 0x03 ∷ 0x41 ∷ 0x42 ∷ []) ≡ Ok []
unfolding table_within
end_first = refl

input_ends : flat_of (0x80 ∷ 0x01 ∷ 0x01 ∷ 0x00 ∷ 0x00 ∷ 0x00 ∷ 0x41 ∷ []) ≡ Ok (codes "A")
unfolding table_within
input_ends = refl

type_four : flat_of (0x80 ∷ 0x01 ∷ 0x01 ∷ 0x00 ∷ 0x00 ∷ 0x00 ∷ 0x41 ∷ 0x80 ∷ 0x04 ∷ []) ≡ Err 7
unfolding table_within
type_four = refl

marker_alone : flat_of (0x80 ∷ []) ≡ Err 0
unfolding table_within
marker_alone = refl

other_file : flat_of (codes "AB" ++ 0x80 ∷ 0x03 ∷ []) ≡ Ok (codes "AB" ++ 0x80 ∷ 0x03 ∷ [])
other_file = refl

-- ---- splits

no_bytes : split_of [] ≡ Err NoEexec
unfolding split first_at eexec_marker gap
no_bytes = refl

nothing_after : split_of (codes "currentfile eexec") ≡ Err NoEexec
unfolding split first_at eexec_marker gap
nothing_after = refl

no_white : split_of (codes "currentfileeexec abcd") ≡ Err NoEexec
unfolding split first_at eexec_marker gap
no_white = refl

three_bytes : split_of (codes "currentfile eexec xyz") ≡ Err ShortCipher
unfolding split first_at eexec_marker gap cipher_text
three_bytes = refl

two_bytes : split_of (codes "currentfile eexec d9d6") ≡ Err ShortCipher
unfolding split first_at eexec_marker gap cipher_text
two_bytes = refl

binary : split_of (codes "xcurrentfile eexec d9dg") ≡ Ok (18, codes "d9dg")
unfolding split first_at eexec_marker gap cipher_text
binary = refl

first_of_two : split_of (codes "currentfile eexec currentfile eexec z") ≡ Ok (17, codes "currentfile eexec z")
unfolding split first_at eexec_marker gap cipher_text
first_of_two = refl

-- digits of either case, white space among them, and an odd one
hexadecimal : split_of (codes "currentfile eexec D9d6 6f" ++ (0 ∷ 12 ∷ codes "633g")) ≡ Ok (17, 0xD9 ∷ 0xD6 ∷ 0x6F ∷ 0x63 ∷ [])
unfolding split first_at eexec_marker gap cipher_text
hexadecimal = refl

-- ---- lines

no_line : hex_lines [] ≡ []
no_line = refl

short_line : hex_lines (0xAB ∷ 0x0C ∷ []) ≡ codes "ab0c" ++ 10 ∷ []
short_line = refl

full_line : hex_lines (replicate 32 0xAB) ≡ codes "abababababababababababababababababababababababababababababababab" ++ 10 ∷ []
full_line = refl

two_lines : hex_lines (replicate 33 0xAB) ≡ codes "abababababababababababababababababababababababababababababababab" ++ (10 ∷ (codes "ab" ++ 10 ∷ []))
two_lines = refl

trailer_size : length trailer ≡ 532
trailer_size = refl

-- ---- files

small_pfb : pfb_text (codes "A") (codes "BC") [] ≡ 128 ∷ 1 ∷ 1 ∷ 0 ∷ 0 ∷ 0 ∷ 65 ∷ 128 ∷ 2 ∷ 2 ∷ 0 ∷ 0 ∷ 0 ∷ 66 ∷ 67 ∷ 128 ∷ 1 ∷ 0 ∷ 0 ∷ 0 ∷ 0 ∷ 128 ∷ 3 ∷ []
small_pfb = refl

small_pfa : file_text Pfa (codes "A") (codes "BC") ≡ codes "A4243" ++ (10 ∷ trailer)
small_pfa = refl

-- the headers of a file with 313 bytes of clear text and 1,008 of cipher
first_header : take 6 (file_text Pfb (replicate 313 65) []) ≡ 0x80 ∷ 0x01 ∷ 0x39 ∷ 0x01 ∷ 0x00 ∷ 0x00 ∷ []
first_header = refl
