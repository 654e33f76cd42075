-- The canonical file of a font is read as the font.
use Rattle.std.proofs.Common.{◌≡◌, ℕ, ◌≤◌, ◌<◌, ◌^◌, true, false, leb, ◌&&◌, Bool, List, [], ◌∷◌, ◌++◌, length, drop, Option, Some, None, Result, Ok, Err, refl, sym, ap, subst, ◌∙◌, append_assoc}
use Rattle.std.proofs.{Common.{arith}, lemmas.Bool.{le-leb}, lemmas.List.{length-append}}
use Rattle.std.specs.{Prelude.{codes, replicate}, FinMap.{entries}}
use Rattle.t1_bytes.specs.{declared.form.Form.{Form}, declared.form.Form.TheVariants.{Pfa, Pfb}, Cipher.{private_cipher, private_text}, FlatText.{starts_segment, flat_when}}
use Rattle.t1_bytes.specs.{Eexec.{eexec_marker, hex_or_white, hex_text, cipher_text}, Laws.{AreBytes}, Texts.{pfb_text, segment_text, hex_lines, trailer}, Limits.{file_limit}}
use Rattle.t1_bytes.proofs.{Ciphers.{decrypted_front, length-sealed}, HexLines.{lines_read, binary_read, hex_run, run_secret, run_digits}, PfbLemmas.{pfb_flat}}
use Rattle.t1_grammar.specs.{Formats.{with_fault}, Grammar.{Stops, first_at, front_again}}
use Rattle.t1_font.specs.{declared.fault.ReadFault.TheVariants.{BadSegment}, declared.fault.ReadFault.{ReadFault}}
use Rattle.t1_text.specs.declared.dialect.Spacing.TheVariants.{White}
use Rattle.t1_font.specs.FontValue.{FontValue, SubrsShell, SparseArray, notdef, count_limit, declared_count, FitsLimits}
use Rattle.t1_font.specs.{Pieces.{EncodingText, OneWord, Puts, ClearPieces, PrivatePieces, flat_pieces, private_pieces}, ReadFont.{font_of, has_notdef, flat_reading, font_from, font_file, read_font}}
use Rattle.t1_font.specs.{Writing.{encoding_text}, Canon.{encoding_pieces, inside_of, outside_of, canon_clear, canon_private, canon, Fits}, IsFont.{IsFont, SubrsFit}}
use Rattle.t1_font.proofs.{ValueLaws.{notdef_is, within_again}, canonical.ClearWritten.{clear_again}, canonical.PrivateWritten.{private_again}}
use Rattle.t1_font.proofs.{canonical.SplitWritten.{IsBorder, eexec_found, split_again}, canonical.FontAgain.{font_again, font_writable, encoding_writable}, ByteLemmas.{has_bytes, cipher_bytes}}
use Rattle.t1_font.proofs.canonical.LengthLemmas.{canon_short}
use Rattle.std.specs.FinMap as maps

-- ---- the cipher

-- what stands behind the line end of the clear text
hex_border : (private : List ℕ) → IsBorder (hex_lines (private_cipher private) ++ trailer)
hex_border private = record {
  white = refl;
  current = (refl, (refl, (refl, (refl, (refl, (refl, (refl, (refl, (refl, (refl, (refl, tt)))))))))));
  eexec = (refl, (refl, (refl, (refl, (refl, tt)))));
  blank = refl;
}

binary_border : (private : List ℕ) → IsBorder (private_cipher private ++ trailer)
binary_border private = record {
  white = refl;
  current = (refl, (refl, (refl, (refl, (refl, (refl, (refl, (refl, (refl, (refl, (refl, tt)))))))))));
  eexec = (refl, (refl, (refl, (refl, (refl, tt)))));
  blank = refl;
}

four_lead : (private : List ℕ) → 4 ≤ length (private_cipher private)
four_lead private = omega (arith, length-sealed 55665 4 private)

not_hex : (t : Bool) → (t && false) ≡ false
not_hex true = refl
not_hex false = refl

binary_cipher : (private : List ℕ) → cipher_text.read (private_cipher private ++ trailer) ≡ Some (private_cipher private ++ trailer, [])
binary_cipher private =
    let c : List ℕ = private_cipher private ++ trailer in
    front_again cipher_text c (c, [])
    (binary_read c (omega (arith, four_lead private, length-append (private_cipher private) trailer)) refl (not_hex (leb 4 (length c))))

-- the private text of a cipher, whatever is read behind it
text_again : (private more : List ℕ) → (junk : List ℕ) × (private_text (private_cipher private ++ more) ≡ private ++ junk)
text_again private more = let r = decrypted_front (replicate 4 0 ++ private) 55665 more in (r.0, ap (drop 4) r.1)

-- ---- the font

-- the pieces of a font make the font again
value_again : (f : FontValue) → IsFont f →
    (font_from (outside_of f.shell (encoding_pieces f.encoding)) (inside_of f.shell (entries f.subrs) (entries f.glyphs))).read ≡ Ok f
unfolding font_from
value_again f h =
    let c : ClearPieces = outside_of f.shell (encoding_pieces f.encoding) in
    let p : PrivatePieces = inside_of f.shell (entries f.subrs) (entries f.glyphs) in
    let same = font_again f h in
    let notdef_there : has_notdef p ≡ true = sym (notdef_is c p) ∙ (ap (λ (g : FontValue). maps.contains_key g.glyphs notdef) same ∙ h.glyphs.notdef) in
    let limits : FitsLimits f = record { declared = count f.shell.subrs f.subrs h.subrs; glyphs = h.glyphs.few; weight = h.light } in
    let within : FitsLimits (font_of c p) = subst FitsLimits (sym same) limits in
    rw (notdef_there, within_again c p within) (ap (λ (g : FontValue). Ok g) same)
  where
    count : (o : Option SubrsShell) (m : SparseArray) → SubrsFit f.shell o m → declared_count o ≤ count_limit
    count None m k = omega arith
    count (Some s) m k = k.declared

-- ---- the file

-- the flat text, of the clear text, the line end behind it, and what stands behind that
module _ (f : FontValue) where
  abbrev clear_end : List ℕ
  clear_end = f.shell.head ++ (encoding_text (encoding_pieces f.encoding) ++ f.shell.clear_tail)

  clear_regrouped : (v : List ℕ) → canon_clear f ++ v ≡ clear_end ++ (10 ∷ v)
  clear_regrouped v = simp append_assoc

  -- a file with this flat text spells the font, where the cipher that is read begins with the one that was written
  file_again : (file v more rest : List ℕ) → IsFont f → IsBorder v → cipher_text.read v ≡ Some (private_cipher (canon_private f) ++ more, rest) →
      length file ≤ file_limit → (flat_reading file).read ≡ Ok (canon_clear f ++ v) → read_font file ≡ Ok f
  unfolding font_file
  file_again file v more rest h border c short flat =
      let x = eexec_found f.shell.head (encoding_pieces f.encoding) f.shell.clear_tail v h.clear.head_eexec
      (encoding_writable f.encoding h.encoding) h.clear.tail_ends border in
      let split = ap (λ t. (flat_pieces t).read) (clear_regrouped v) ∙ split_again clear_end v (private_cipher (canon_private f) ++ more) rest x.0 x.1 x.2 c in
      let clear = clear_again f.shell.head (encoding_pieces f.encoding) f.shell.clear_tail h.clear.head_encoding
      (encoding_writable f.encoding h.encoding) h.clear.tail_apart in
      let text = text_again (canon_private f) more in
      let private =
      ap (λ t. (private_pieces White t).read) text.1 ∙ private_again (inside_of f.shell (entries f.subrs) (entries f.glyphs)) text.0 (font_writable f h) in
      rw (le-leb (length file) file_limit short, flat, split, clear, private) (value_again f h)

head_starts : (head rest : List ℕ) (e : EncodingText) → starts_segment head ≡ false → starts_segment (head ++ (encoding_text e ++ rest)) ≡ false
head_starts [] rest (OneWord w) h = refl
head_starts [] rest (Puts es) h = refl
head_starts (b ∷ head) rest e h = h

plain_flat : (file : List ℕ) → starts_segment file ≡ false → (flat_reading file).read ≡ Ok file
unfolding flat_reading
plain_flat file s = ap (λ (b : Bool). with_fault BadSegment (flat_when b file).read) s

-- a PFB within the file limit is read as its three parts
joined_flat : (clear cipher trailer : List ℕ) → length (pfb_text clear cipher trailer) ≤ file_limit →
    (flat_reading (pfb_text clear cipher trailer)).read ≡ Ok (clear ++ (cipher ++ trailer))
unfolding flat_reading
joined_flat clear cipher trailer h =
    let e : List ℕ = 128 ∷ 3 ∷ [] in
    let t : List ℕ = segment_text 1 trailer ++ e in
    let c : List ℕ = segment_text 2 cipher ++ t in
    let a : length clear < 2 ^ 32 = omega (arith, h, length-append clear c) in
    let b : length cipher < 2 ^ 32 = omega (arith, h, length-append clear c, length-append cipher t) in
    let d : length trailer < 2 ^ 32 = omega (arith, h, length-append clear c, length-append cipher t, length-append trailer e) in
    ap (with_fault BadSegment) (pfb_flat clear cipher trailer a b d)

-- reading the canonical file of a font gives the font
pub round_trip : (f : FontValue) (form : Form) → IsFont f → Fits form f → read_font (canon f form) ≡ Ok f
round_trip f Pfa h fits =
    let p = canon_private f in
    let v : List ℕ = hex_lines (private_cipher p) ++ trailer in
    let secret =
    front_again cipher_text v (private_cipher p ++ replicate 256 0, codes "leartomark" ++ 10 ∷ [])
    (lines_read (private_cipher p) (four_lead p) (cipher_bytes f (has_bytes f h))) in
    let regrouped : canon f Pfa ≡ f.shell.head ++ (encoding_text (encoding_pieces f.encoding) ++ ((f.shell.clear_tail ++ 10 ∷ []) ++ v)) = simp append_assoc in
    let starts : starts_segment (canon f Pfa) ≡ false =
    ap starts_segment regrouped ∙ head_starts f.shell.head ((f.shell.clear_tail ++ 10 ∷ []) ++ v) (encoding_pieces f.encoding) fits in
    file_again f (canon f Pfa) v (replicate 256 0) (codes "leartomark" ++ 10 ∷ []) h
    (hex_border p) secret (canon_short f Pfa h) (plain_flat (canon f Pfa) starts)
round_trip f Pfb h fits =
    let p = canon_private f in
    file_again f (canon f Pfb) (private_cipher p ++ trailer) trailer [] h (binary_border p) (binary_cipher p)
    (canon_short f Pfb h) (joined_flat (canon_clear f) (private_cipher p) trailer (canon_short f Pfb h))

-- ---- the font as a text that other bytes follow

-- what stands behind the clear text, where these bytes follow
abbrev pub run_before : FontValue → List ℕ → List ℕ
run_before f rest = hex_run (private_cipher (canon_private f)) ++ rest

run_border : (f : FontValue) (rest : List ℕ) → IsBorder (run_before f rest)
run_border f rest = record {
  white = refl;
  current = (refl, (refl, (refl, (refl, (refl, (refl, (refl, (refl, (refl, (refl, (refl, tt)))))))))));
  eexec = (refl, (refl, (refl, (refl, (refl, tt)))));
  blank = refl;
}

-- the first marker ends the clear text
pub marker_ends : (f : FontValue) (rest : List ℕ) → IsFont f →
    (x : (List ℕ × List ℕ) × List ℕ) × (first_at eexec_marker (canon_clear f ++ run_before f rest) ≡ Some x) × (x.1 ≡ 10 ∷ run_before f rest)
marker_ends f rest h =
    let x = eexec_found f.shell.head (encoding_pieces f.encoding) f.shell.clear_tail (run_before f rest) h.clear.head_eexec
    (encoding_writable f.encoding h.encoding) h.clear.tail_ends (run_border f rest) in
    (x.0, ap (first_at eexec_marker) (clear_regrouped f (run_before f rest)) ∙ x.1, x.2)

secret_bytes : (f : FontValue) → IsFont f → AreBytes (private_cipher (canon_private f))
secret_bytes f h = cipher_bytes f (has_bytes f h)

-- behind the marker the digits of the cipher are read, up to a byte that is neither a digit nor white space
pub digits_behind : (f : FontValue) (rest : List ℕ) → IsFont f → Stops hex_or_white rest →
    hex_text.read (10 ∷ run_before f rest) ≡ Some (hex_run (private_cipher (canon_private f)), rest)
digits_behind f rest h stops = run_digits (private_cipher (canon_private f)) rest (four_lead (canon_private f)) (secret_bytes f h) stops

-- it is read as the font, whatever such bytes follow
pub read_before : (f : FontValue) (rest : List ℕ) → IsFont f → Stops hex_or_white rest → starts_segment (canon_clear f ++ run_before f rest) ≡ false →
    length (canon_clear f ++ run_before f rest) ≤ file_limit → read_font (canon_clear f ++ run_before f rest) ≡ Ok f
read_before f rest h stops plain short =
    file_again f (canon_clear f ++ run_before f rest) (run_before f rest) (replicate 256 0) rest h (run_border f rest)
    (run_secret (private_cipher (canon_private f)) rest (four_lead (canon_private f)) (secret_bytes f h) stops) short
    (plain_flat (canon_clear f ++ run_before f rest) plain)

-- fonts with one canonical file are one font
pub one_canon : (f g : FontValue) (form : Form) → IsFont f → IsFont g → Fits form f → Fits form g → canon f form ≡ canon g form → f ≡ g
one_canon f g form h k s t e = same_font f g (sym (round_trip f form h s) ∙ (ap read_font e ∙ round_trip g form k t))
  where
    or_else : FontValue → Result FontValue ReadFault → FontValue
    or_else other (Ok x) = x
    or_else other (Err e) = other

    same_font : (x y : FontValue) → ◌≡◌ {A = Result FontValue ReadFault} (Ok x) (Ok y) → x ≡ y
    same_font x y e = ap (or_else x) e
