-- Rows of the reader on texts of Tiny, computed.
use Rattle.std.proofs.{Common.{◌≡◌, ℕ, ◌+◌, true, false, List, [], ◌∷◌, ◌++◌, map, length, drop, Some, Ok, Err, refl, arith}, lemmas.Bool.{le-leb, lt-leb}}
use Rattle.std.specs.{Prelude.{codes}, Ordering.{nat_cmp}, FinMap.{find}}
use Rattle.t1_grammar.specs.{Grammar.{first_at}, Tables.{table_within}}
use Rattle.t1_bytes.specs.{White.{gap}, Cipher.{sealed}}
use Rattle.t1_font.specs.declared.fault.ReadFault.TheVariants.{BadEncoding, BadLenIV, BadSubrs, BadGlyphs, Hybrid, NoNotdef, Limit}
use Rattle.t1_text.specs.{declared.dialect.Spacing.TheVariants.{White}, Words.{one_white, word, keyword, decimal, name, phrase_of, next_name}, Entry.{length_from, body, entry}}
use Rattle.t1_text.specs.{Subrs.{subr_key, subrs_end}, Markers.{encoding_marker, subrs_marker, chars_marker, len_iv_marker, len_iv, closefile}}
use Rattle.t1_text.specs.{Encoding.{encoding_word, encoding_table, encoding_loop, encoding_start, octal, code, put_entry, encoding_end}, Glyphs.{glyphs_end}, Entries.{last_entries, last_names}}
use Rattle.t1_text.specs.Dialect.{strict}
use Rattle.t1_font.specs.{Pieces.{Puts, SubrsPieces, encoding_from, clear_pieces, iv_at, iv_of, tail_after, glyphs_from, tables_from, private_pieces}, FontValue.{Shell, name_cmp, notdef, weight_of}}
use Rattle.t1_font.specs.{ReadFont.{subrs_shell, is_within, font_from}, Canon.{inside_of, outside_of}}
use Rattle.t1_font_laws.proofs.rows.Tiny.{lines, glyph_notdef, head, clear_tail, puts, shell, subrs, glyphs, glyph_Y, tiny, private_lines, clear_with, clear, glyph_line, first_subr, more_subrs}
use Rattle.t1_font_laws.proofs.rows.Tiny.{first_glyph, more_glyphs, private_with, private_text}

-- ---- the clear text

clear_reads : (clear_pieces strict clear).read ≡ Ok (record { head = head; encoding = Puts puts; clear_tail = clear_tail })
unfolding first_at table_within gap word keyword decimal name encoding_marker encoding_word
    encoding_table encoding_loop encoding_start code put_entry encoding_end encoding_from clear_pieces
clear_reads = refl

code_too_large : (clear_pieces strict (clear_with (codes "dup 256 /X put"))).read ≡ Err (BadEncoding 195)
unfolding first_at table_within gap word keyword decimal name octal encoding_marker encoding_word
    encoding_table encoding_loop encoding_start code put_entry encoding_end encoding_from clear_pieces
code_too_large = refl

octal_code : (clear_pieces strict (clear_with (codes "dup 8#101 /X put"))).read ≡ Ok (record { head = head; encoding = Puts puts; clear_tail = clear_tail })
unfolding first_at table_within gap word keyword decimal name octal encoding_marker encoding_word
    encoding_table encoding_loop encoding_start code put_entry encoding_end encoding_from clear_pieces
octal_code = refl

-- ---- the private text

-- Tiny's shell with this declared count
abbrev declaring : ℕ → Shell
declaring n = record shell { subrs = Some (record { declared = n; rd = codes "RD"; put = codes "NP"; closing = codes "ND" }) }

private_reads : (private_pieces White private_text).read ≡ Ok (inside_of shell subrs glyphs)
unfolding first_at table_within gap one_white word keyword decimal name phrase_of length_from body entry subr_key subrs_end subrs_marker
    chars_marker len_iv_marker len_iv closefile next_name glyphs_end iv_at iv_of tail_after glyphs_from tables_from private_pieces
private_reads = refl

subr_too_short : (private_pieces White
    (private_with private_lines (codes "/Subrs 10 array") (codes "dup 0 3 RD abc NP" ∷ more_subrs) [] (codes "11")
    (first_glyph ∷ more_glyphs))).read ≡ Err (BadSubrs 269)
unfolding first_at table_within gap one_white word keyword decimal name phrase_of length_from body entry subr_key subrs_end subrs_marker
    chars_marker len_iv_marker len_iv closefile next_name glyphs_end iv_at iv_of tail_after glyphs_from tables_from private_pieces
subr_too_short = refl

glyph_too_short : (private_pieces White
    (private_with private_lines (codes "/Subrs 10 array") (first_subr ∷ more_subrs) [] (codes "11")
    (codes "/.notdef 3 RD abc ND" ∷ more_glyphs))).read ≡ Err (BadGlyphs 546)
unfolding first_at table_within gap one_white word keyword decimal name phrase_of length_from body entry subr_key subrs_end subrs_marker
    chars_marker len_iv_marker len_iv closefile next_name glyphs_end iv_at iv_of tail_after glyphs_from tables_from private_pieces
glyph_too_short = refl

-- the entry of Subr 9
nine_subrs : (private_pieces White
    (private_with private_lines (codes "/Subrs 9 array") (first_subr ∷ more_subrs) [] (codes "11") (first_glyph ∷ more_glyphs))).read ≡ Err (BadSubrs 481)
unfolding first_at table_within gap one_white word keyword decimal name phrase_of length_from body entry subr_key subrs_end subrs_marker
    chars_marker len_iv_marker len_iv closefile next_name glyphs_end iv_at iv_of tail_after glyphs_from tables_from private_pieces
nine_subrs = refl

many_subrs : (private_pieces White
    (private_with private_lines (codes "/Subrs 65535 array") (first_subr ∷ more_subrs) [] (codes "11") (first_glyph ∷ more_glyphs))).read ≡ Ok (inside_of
    (declaring 65535) subrs glyphs)
unfolding first_at table_within gap one_white word keyword decimal name phrase_of length_from body entry subr_key subrs_end subrs_marker
    chars_marker len_iv_marker len_iv closefile next_name glyphs_end iv_at iv_of tail_after glyphs_from tables_from private_pieces
many_subrs = refl

-- read, and over a limit below
too_many_subrs : (private_pieces White
    (private_with private_lines (codes "/Subrs 65536 array") (first_subr ∷ more_subrs) [] (codes "11") (first_glyph ∷ more_glyphs))).read ≡ Ok (inside_of
    (declaring 65536) subrs glyphs)
unfolding first_at table_within gap one_white word keyword decimal name phrase_of length_from body entry subr_key subrs_end subrs_marker
    chars_marker len_iv_marker len_iv closefile next_name glyphs_end iv_at iv_of tail_after glyphs_from tables_from private_pieces
too_many_subrs = refl

second_x : (private_pieces White
    (private_with private_lines (codes "/Subrs 10 array") (first_subr ∷ more_subrs) [] (codes "11")
    (first_glyph ∷ (more_glyphs ++ glyph_line (codes "/X 16") glyph_Y ∷ [])))).read ≡ Ok (inside_of shell subrs (glyphs ++ (codes "X", glyph_Y) ∷ []))
unfolding first_at table_within gap one_white word keyword decimal name phrase_of length_from body entry subr_key subrs_end subrs_marker
    chars_marker len_iv_marker len_iv closefile next_name glyphs_end iv_at iv_of tail_after glyphs_from tables_from private_pieces
second_x = refl

-- the count of glyphs is not looked at
other_count : (private_pieces White
    (private_with private_lines (codes "/Subrs 10 array") (first_subr ∷ more_subrs) [] (codes "3") (first_glyph ∷ more_glyphs))).read ≡ Ok (inside_of
    shell subrs glyphs)
unfolding first_at table_within gap one_white word keyword decimal name phrase_of length_from body entry subr_key subrs_end subrs_marker
    chars_marker len_iv_marker len_iv closefile next_name glyphs_end iv_at iv_of tail_after glyphs_from tables_from private_pieces
other_count = refl

hybrid : (private_pieces White
    (private_with private_lines (codes "/Subrs 10 array") (first_subr ∷ more_subrs) (codes "/Subrs 0 array ND ") (codes "11")
    (first_glyph ∷ more_glyphs))).read ≡ Err Hybrid
unfolding first_at table_within gap one_white word keyword decimal name phrase_of length_from body entry subr_key subrs_end subrs_marker
    chars_marker len_iv_marker len_iv closefile next_name glyphs_end iv_at iv_of tail_after glyphs_from tables_from private_pieces
hybrid = refl

negative_len_iv : (private_pieces White
    (private_with (private_lines ++ codes "/lenIV -1 def" ∷ []) (codes "/Subrs 10 array") (first_subr ∷ more_subrs) [] (codes "11")
    (first_glyph ∷ more_glyphs))).read ≡ Err BadLenIV
unfolding first_at table_within gap one_white word keyword decimal name phrase_of length_from body entry subr_key subrs_end subrs_marker
    chars_marker len_iv_marker len_iv closefile next_name glyphs_end iv_at iv_of tail_after glyphs_from tables_from private_pieces
negative_len_iv = refl

four_lead_bytes : (private_pieces White
    (private_with (private_lines ++ codes "/lenIV 4 def" ∷ []) (codes "/Subrs 10 array") (first_subr ∷ more_subrs) [] (codes "11")
    (first_glyph ∷ more_glyphs))).read ≡ Ok (inside_of (record shell { private = lines (private_lines ++ codes "/lenIV 4 def" ∷ []) }) subrs glyphs)
unfolding first_at table_within gap one_white word keyword decimal name phrase_of length_from body entry subr_key subrs_end subrs_marker
    chars_marker len_iv_marker len_iv closefile next_name glyphs_end iv_at iv_of tail_after glyphs_from tables_from private_pieces
four_lead_bytes = refl

-- read, and without `.notdef` below
no_notdef_read : (private_pieces White
    (private_with private_lines (codes "/Subrs 10 array") (first_subr ∷ more_subrs) [] (codes "11") more_glyphs)).read ≡
    Ok (inside_of shell subrs (drop 1 glyphs))
unfolding first_at table_within gap one_white word keyword decimal name phrase_of length_from body entry subr_key subrs_end subrs_marker
    chars_marker len_iv_marker len_iv closefile next_name glyphs_end iv_at iv_of tail_after glyphs_from tables_from private_pieces
no_notdef_read = refl

-- ---- the font

font_read : (font_from (outside_of shell (Puts puts)) (inside_of shell subrs glyphs)).read ≡ Ok tiny
unfolding font_from
font_read = refl

no_notdef : (font_from (outside_of shell (Puts puts)) (inside_of shell subrs (drop 1 glyphs))).read ≡ Err NoNotdef
unfolding font_from
no_notdef = refl

over_count : (font_from (outside_of shell (Puts puts)) (inside_of (declaring 65536) subrs glyphs)).read ≡ Err Limit
unfolding font_from
over_count = refl

tiny_weight : weight_of shell subrs glyphs ≡ 4936
tiny_weight = refl

kept_lengths : map length (shell.head ∷ shell.clear_tail ∷ shell.private ∷ shell.middle ∷ shell.tail ∷ []) ≡ 135 ∷ 62 ∷ 253 ∷ 9 ∷ 95 ∷ []
kept_lengths = refl

second_x_stands : find name_cmp (codes "X") (last_entries name_cmp (glyphs ++ (codes "X", glyph_Y) ∷ [])) ≡ Some glyph_Y
second_x_stands = refl

second_x_weight : weight_of shell subrs (last_entries name_cmp (glyphs ++ (codes "X", glyph_Y) ∷ [])) ≡ 4933
second_x_weight = refl

-- a head of n bytes weighs n
weighs : (h : List ℕ) → weight_of (record shell { head = h }) subrs glyphs ≡ length h + 4801
weighs h = omega arith

heaviest : (h : List ℕ) → length h ≡ 67104063 → is_within (record shell { head = h }) subrs glyphs ≡ true
heaviest h e = le-leb (weight_of (record shell { head = h }) subrs glyphs) 67108864 (omega (arith, weighs h, e))

one_byte_more : (h : List ℕ) → length h ≡ 67104064 → is_within (record shell { head = h }) subrs glyphs ≡ false
one_byte_more h e = lt-leb (weight_of (record shell { head = h }) subrs glyphs) 67108864 (omega (arith, weighs h, e))

-- of two names of a code the last stands, and `.notdef` takes a code away
last_put : last_names nat_cmp ((66, codes "Y") ∷ (65, codes "X") ∷ (66, codes "Z") ∷ (65, codes ".notdef") ∷ []) ≡ (66, codes "Z") ∷ []
last_put = refl

-- ---- words

-- entries with other words, and white space in their phrases
abbrev words_text : List ℕ
words_text =
    lines (codes "/Subrs 2 array" ∷ (codes "dup 0 5 -| " ++ (sealed 4330 4 (0x0B ∷ []) ++ codes "|"))
    ∷ (codes "dup 1 5 RD " ++ (sealed 4330 4 (0x0B ∷ []) ++ codes " NP")) ∷ codes "noaccess  put" ∷ [])
    ++ (codes "/CharStrings 1 dict dup begin" ++ (10 ∷ (lines
    ((codes "/.notdef 9 -| " ++ (sealed 4330 4 glyph_notdef ++ (codes " readonly" ++ (10 ∷ codes "def")))) ∷ codes "end" ∷ []) ++ codes "closefile")))

abbrev words_subrs : SubrsPieces
words_subrs = record {
  declared = 2;
  entries = (record { key = 0; body = record { rd = codes "-|"; bytes = sealed 4330 4 (0x0B ∷ []); phrase = codes "|" } })
      ∷ (record { key = 1; body = record { rd = codes "RD"; bytes = sealed 4330 4 (0x0B ∷ []); phrase = codes "NP" } }) ∷ [];
  closing = codes "noaccess put";
}

words_read : (private_pieces White words_text).read ≡ Ok
    (record {
      private = [];
      len_iv = 4;
      subrs = Some words_subrs;
      middle = 10 ∷ [];
      glyphs =
          (record { key = notdef; body = record { rd = codes "-|"; bytes = sealed 4330 4 glyph_notdef; phrase = codes "readonly def" } }) ∷ [];
      tail = 10 ∷
          codes "closefile";
    })
unfolding first_at table_within gap one_white word keyword decimal name phrase_of length_from body entry subr_key subrs_end subrs_marker
    chars_marker len_iv_marker len_iv closefile next_name glyphs_end iv_at iv_of tail_after glyphs_from tables_from private_pieces
words_read = refl

-- the words of the first entry are kept
first_words : subrs_shell words_subrs ≡ record { declared = 2; rd = codes "-|"; put = codes "|"; closing = codes "noaccess put" }
first_words = refl
