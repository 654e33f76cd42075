-- The files of Tiny: its canonical ones, and that they are read as Tiny.
use Rattle.std.proofs.Common.{◌≡◌, ℕ, List, [], ◌∷◌, ◌++◌, length, take, Ok, Err, refl, ◌∙◌}
use Rattle.std.specs.{Prelude.{codes, filter, not, ◌==◌, ◌-◌, nat_le, map, if◌then◌else◌}, Ordering.{nat_cmp}, FinMap.{entries-from_sorted}}
use Rattle.t1_bytes.specs.{declared.form.Form.{Form}, declared.form.Form.TheVariants.{Pfa, Pfb}, Cipher.{private_cipher}, Eexec.{paired, eexec_marker, cipher_text}, Split.{split}, White.{gap}}
use Rattle.t1_bytes.specs.Texts.{file_text, zero_lines}
use Rattle.t1_grammar.specs.{Grammar.{first_at}, Tables.{table_within}}
use Rattle.t1_font.specs.{declared.fault.ReadFault.TheVariants.{BadSegment, NoEexec, ShortCipher}, FontValue.{name_cmp}}
use Rattle.t1_text.specs.{Words.{one_white, word, keyword, decimal, name, phrase_of, next_name}, Entry.{length_from, body, entry}, Subrs.{subr_key, subrs_end}}
use Rattle.t1_text.specs.Markers.{encoding_marker, subrs_marker, chars_marker, len_iv_marker, len_iv, closefile}
use Rattle.t1_text.specs.{Encoding.{encoding_word, encoding_table, encoding_loop, encoding_start, octal, code, put_entry, encoding_end}, Glyphs.{glyphs_end}, Dialect.{strict}}
use Rattle.t1_font.specs.Pieces.{Puts, flat_pieces, encoding_from, clear_pieces, iv_at, iv_of, tail_after, glyphs_from, tables_from, private_pieces}
use Rattle.t1_font.specs.{ReadFont.{flat_reading, font_from, font_file, read_font}, Writing.{clear_written, private_written}, Canon.{outside_of, inside_of, canon}, IsFont.{IsFont}}
use Rattle.t1_font.proofs.{ByteLemmas.{small_bytes}, canonical.RoundTrip.{round_trip}, read_fonts.ReadFontLaws.{read_is_font}}
use Rattle.t1_font_laws.proofs.rows.TinyNumbers.{n0, n1, n2, n3, n4, n5, n6, n7, n8, n9, n10, n11, n12, n14, n15, n16, n18, n19, n50, n65, n66, n194}
use Rattle.t1_font_laws.proofs.rows.Tiny.{lines, puts, shell, subrs, glyphs, tiny, clear, private_text}

-- ---- the vectors

-- the lines of the cipher in a PFA
abbrev pub cipher_lines : List (List ℕ)
cipher_lines =
    codes "d9d66f633b846a989b9974b0179fc6cc4453a36a0d52edf270cf3672dda82b80"
    ∷ codes "be5e91653f77df00278182fc025644c890b8d7f241b13346ed3c0f3f79fc326b"
    ∷ codes "8a8ce986ec35759bda76d787eb7e82ac86c366fbbb4daf8076cdcf1511219c8b"
    ∷ codes "6bec34d23391d6cfd0e81a25b1094541a6804b56f52785e152a9fe0bd8d5339f"
    ∷ codes "e5708ad376053b633aa1db247888f5b6789e0ac53e6511b814c175a8d8566d48"
    ∷ codes "47f60e2630e32d136bee2262c6d7bb9d140ef7cc15a6cb785971b4b3db3d8003"
    ∷ codes "c51e1c65fb2ada191c1c370230de7f415d321c164c95c4ee29a9ce2cc8fb9d72"
    ∷ codes "ff8c99f0d33d4fed6f7747f838c88fa66426366cae9582382f858eb2e84dc93c"
    ∷ codes "035d84b88d33aa68c41e89e67169f1c9f0f1bcf8aa11ab5da794230a55126506"
    ∷ codes "eacdf0fa2042bb23c5a6683447ee35f889a7107e9dce9e01f8bc3012053af96b"
    ∷ codes "0d7e771d782943028a304e0eeed88dcb50410bdbedf24e2c69dea562cf7a16ba"
    ∷ codes "18df3377abdf93700fc74b0439374f251f8bef1154f701f3f8acf34f8bd47674"
    ∷ codes "fbf991c1514f7b348d44851268366bb2ca30f4d80afc78b123dd8589476fb300"
    ∷ codes "1488b55f44a7564c18d44ba1d591b4ede291a7b3e36fee32404ac251e82c6f8d"
    ∷ codes "ae5c1038d992f1779ce5763f848ace87200096f3a8d3218072085f052cec01b7"
    ∷ codes "d399090e25aecdfc2b1a2c238e1530a3598f35e26fb19bcfbab8c489375021d6"
    ∷ codes "84201d278e7f28c91f97bd6721544f953d514ca2a17ceb8abf58fee6e16c49d5"
    ∷ codes "e52805f865db96656704dea9a6469ad1733b708e1ddcb3dc584658c2a19a0d4a"
    ∷ codes "72f0d48e1ee8f4e403a22ea36e86ff6194342e6f397cf489df53f9b38dcfe1e9"
    ∷ codes "357cca7a3713d0063b799cdfee80156cec7a880097759a3b2c73f9c3efe048c8"
    ∷ codes "84095d4aa7c361613a028572d60aab31c6fda4265be889c7a42cdb06544d6939"
    ∷ codes "3b225b6733947ea65f1b8a558d1b575b4e4115ebb73778cbeb94a6428cecc04b"
    ∷ codes "ffcd413941945548f65a71bad6274692093ff3146f35c6f267ed89125184acfe"
    ∷ codes "094ffc3acc0d5187da632dcbeaabb561dd5cd14e79fb4db282a73411310fae39"
    ∷ codes "72bcabab06157d3f92bf1fd7f149b58d7c5b1310b36348471f2e852aaaac41d8"
    ∷ codes "fc7ffee6ce8e3bd6c2ad16388f09afba5a4c979fc9ae8ca5ad74c16495ef1a80"
    ∷ codes "16fd4668fe687baeb3f83618edd82b1c30fa15fa44e715393e6b62f58f9d48c6"
    ∷ codes "3506d4cdc13c8e2af8a3b04c1c133af91a7ccea9f0ddec4d5d3eaad53c17f40d"
    ∷ codes "161a81c7e5cc2fdd3a4903921cf2570361a9d53459e2326db02ea4daf3312166"
    ∷ codes "43dfbbc3dff2c436be9c7927180f6e8d219393324f919cea588ad733cf2bfb4b"
    ∷ codes "f1e0d16f5f9b3e673b5dde12d1bf7cf5f0f772e0f0fc154412542b863a974f21"
    ∷ codes "472c867eb01df122ea906979cf04366a"
    ∷ []

abbrev pub end_lines : List ℕ
end_lines = zero_lines 8 ++ lines (codes "cleartomark" ∷ [])

abbrev pub pfa : List ℕ
pfa = clear ++ (10 ∷ (lines cipher_lines ++ end_lines))

-- the bytes that the lines of the PFA spell
abbrev cipher : List ℕ
cipher = paired (filter (λ b. not (b == 10)) (lines cipher_lines))

abbrev pub pfb : List ℕ
pfb = (0x80 ∷ 0x01 ∷ 0x39 ∷ 0x01 ∷ 0x00 ∷ 0x00 ∷ []) ++ (clear ++ (10
    ∷ ((0x80 ∷ 0x02 ∷ 0xF0 ∷ 0x03 ∷ 0x00 ∷ 0x00 ∷ []) ++ (cipher ++ ((0x80 ∷ 0x01 ∷ 0x14 ∷ 0x02 ∷ 0x00 ∷ 0x00 ∷ []) ++ (end_lines ++ 0x80 ∷ 0x03 ∷ []))))))

sizes : length pfa ∷ length pfb ∷ [] ≡ 2893 ∷ 1873 ∷ []
sizes = refl

-- ---- what is written

clear_is : clear_written (outside_of shell (Puts puts)) ≡ clear ++ 10 ∷ []
clear_is = simp (n65, n66, n194)

private_is : private_written (inside_of shell subrs glyphs) ≡ private_text
private_is = simp (n0, n1, n2, n3, n4, n5, n6, n7, n8, n9, n10, n11, n12, n14, n15, n16, n18, n19, n50)

written_pfa : file_text Pfa (clear ++ 10 ∷ []) (private_cipher private_text) ≡ pfa
written_pfa = refl

written_pfb : file_text Pfb (clear ++ 10 ∷ []) (private_cipher private_text) ≡ pfb
written_pfb = refl

canon_is : (form : Form) → canon tiny form ≡ file_text form (clear ++ 10 ∷ []) (private_cipher private_text)
canon_is form =
    (λ i. file_text form (clear_written (outside_of shell (Puts (entries-from_sorted nat_cmp puts tt i))))
    (private_cipher (private_written (inside_of shell (entries-from_sorted nat_cmp subrs tt i) (entries-from_sorted name_cmp glyphs tt i)))))
    ∙ (λ i. file_text form (clear_is i) (private_cipher (private_is i)))

-- the canonical PFA of Tiny is this file
pub tiny_pfa : canon tiny Pfa ≡ pfa
tiny_pfa = canon_is Pfa ∙ written_pfa

-- the canonical PFB of Tiny is this file
pub tiny_pfb : canon tiny Pfb ≡ pfb
tiny_pfb = canon_is Pfb ∙ written_pfb

-- ---- what is read

pfa_reads : read_font pfa ≡ Ok tiny
unfolding table_within first_at gap one_white word keyword decimal name phrase_of length_from body entry subr_key subrs_end
    eexec_marker encoding_marker subrs_marker chars_marker len_iv_marker len_iv closefile encoding_word encoding_table
    encoding_loop encoding_start octal code put_entry encoding_end next_name glyphs_end cipher_text split flat_pieces
    encoding_from clear_pieces iv_at iv_of tail_after glyphs_from tables_from private_pieces flat_reading font_from font_file
pfa_reads = refl

pfb_reads : read_font pfb ≡ Ok tiny
unfolding table_within first_at gap one_white word keyword decimal name phrase_of length_from body entry subr_key subrs_end
    eexec_marker encoding_marker subrs_marker chars_marker len_iv_marker len_iv closefile encoding_word encoding_table
    encoding_loop encoding_start octal code put_entry encoding_end next_name glyphs_end cipher_text split flat_pieces
    encoding_from clear_pieces iv_at iv_of tail_after glyphs_from tables_from private_pieces flat_reading font_from font_file
pfb_reads = refl

pfb_cut : read_font (take 1000 pfb) ≡ Err (BadSegment 319)
unfolding flat_reading font_file split flat_pieces table_within first_at gap eexec_marker cipher_text
pfb_cut = refl

pfb_at_border : read_font (take 1333 pfb) ≡ Ok tiny
unfolding table_within first_at gap one_white word keyword decimal name phrase_of length_from body entry subr_key subrs_end
    eexec_marker encoding_marker subrs_marker chars_marker len_iv_marker len_iv closefile encoding_word encoding_table
    encoding_loop encoding_start octal code put_entry encoding_end next_name glyphs_end cipher_text split flat_pieces
    encoding_from clear_pieces iv_at iv_of tail_after glyphs_from tables_from private_pieces flat_reading font_from font_file
pfb_at_border = refl

-- upper-case digits, and CR behind each line of them
abbrev upper : ℕ → ℕ
upper b = if nat_le 97 b then b - 32 else b

abbrev upper_lines : List (List ℕ) → List ℕ
upper_lines [] = []
upper_lines (l ∷ ls) = map upper l ++ (13 ∷ upper_lines ls)

upper_hex : read_font (clear ++ (10 ∷ (upper_lines cipher_lines ++ end_lines))) ≡ Ok tiny
unfolding table_within first_at gap one_white word keyword decimal name phrase_of length_from body entry subr_key subrs_end
    eexec_marker encoding_marker subrs_marker chars_marker len_iv_marker len_iv closefile encoding_word encoding_table
    encoding_loop encoding_start octal code put_entry encoding_end next_name glyphs_end cipher_text split flat_pieces
    encoding_from clear_pieces iv_at iv_of tail_after glyphs_from tables_from private_pieces flat_reading font_from font_file
upper_hex = refl

empty : read_font [] ≡ Err NoEexec
unfolding flat_reading font_file split flat_pieces table_within first_at gap eexec_marker cipher_text
empty = refl

through_eexec : read_font (take 312 pfa) ≡ Err NoEexec
unfolding flat_reading font_file split flat_pieces table_within first_at gap eexec_marker cipher_text
through_eexec = refl

through_line : read_font (take 313 pfa) ≡ Err ShortCipher
unfolding flat_reading font_file split flat_pieces table_within first_at gap eexec_marker cipher_text
through_line = refl

two_bytes : read_font (take 313 pfa ++ codes "d9d6") ≡ Err ShortCipher
unfolding flat_reading font_file split flat_pieces table_within first_at gap eexec_marker cipher_text
two_bytes = refl

-- ---- Tiny is a font

-- what is asked of a font can be met
pub tiny_is_font : IsFont tiny
tiny_is_font = read_is_font strict pfa tiny (small_bytes pfa refl) pfa_reads

-- the same by the law
pfb_again : read_font (canon tiny Pfb) ≡ Ok tiny
pfb_again = round_trip tiny Pfb tiny_is_font tt
