-- What is written of a font is bytes.
use Rattle.std.proofs.Common.{◌≡◌, ℕ, zero, suc, ◌/◌, ◌%◌, ◌<◌, Bool, true, false, cond, ltb, ◌&&◌, List, [], ◌∷◌, ◌++◌, map, length, Option, Some, None, refl, sym, ap, subst, ◌∙◌, arith}
use Rattle.std.proofs.lemmas.Bool.{ltb-true, and_parts, agree_below_at}
use Rattle.std.specs.{Prelude.{codes, ◌==◌}, Ordering.{nat_cmp}, Fmt.{decimal as digits, digits as all_digits, digits_onto, digit_glyph}, List.{AllByRecursion}, Option.{option_map}}
use Rattle.std.specs.{Cmp.{nat_cmp_total}, Cmp.Lexicographic.{nat_list_cmp_total}, FinMap.{get, find, entries, get-entries, nat_cmp-IsAntisymmetric}}
use Rattle.t1_bytes.specs.{declared.form.Form.{Form}, declared.form.Form.TheVariants.{Pfa, Pfb}, Cipher.{private_cipher}, Texts.{segment_text, hex_byte, hex_rest, hex_lines, trailer}, Laws.{AreBytes}}
use Rattle.t1_bytes.proofs.Ciphers.{sealed_bytes}
use Rattle.t1_font.specs.FontValue.{FontValue, Shell, SubrsShell, Encoding, Word, Codes, SparseArray}
use Rattle.t1_text.specs.Entry.{Body}
use Rattle.t1_font.specs.Canon.{sealed_body, sealed_entry, subr_entry, glyph_entry, subrs_pieces, encoding_pieces, canon_clear, canon_private, canon}
use Rattle.t1_font.specs.Writing.{body_text, entry_text, entries_text, index_text, subrs_text, subrs_part, name_text, glyphs_text, glyphs_part, puts_text, encoding_text}
use Rattle.t1_font.specs.IsFont.{IsFont, IsEncoding, SubrsFit, SubrWords, EncodingBytes, SubrsBytes, HasBytes}
use Rattle.t1_font.proofs.{MapLemmas.{Some_None, entries_all}, canonical.FontAgain.{name_same}}
use Rattle.t1_text.proofs.Bytes.{AreBytes-append}

-- each of these is below 256
abbrev pub are_small : List ℕ → Bool
are_small [] = true
are_small (b ∷ bs) = ltb b 256 && are_small bs

-- numbers that pass the test are bytes
pub small_bytes : (bs : List ℕ) → are_small bs ≡ true → AreBytes bs
small_bytes [] h = tt
small_bytes (b ∷ bs) h = let both = and_parts (ltb b 256) (are_small bs) h in (ltb-true b 256 both.0, small_bytes bs both.1)

digit_small : (d : ℕ) → d < 10 → digit_glyph false d < 256
digit_small d h = ltb-true (digit_glyph false d) 256 (agree_below_at (λ d. ltb (digit_glyph false d) 256) (λ _. true) 10 d refl h)

one_or_more : (b : Bool) (d : ℕ) (acc more : List ℕ) → d < 256 → AreBytes acc → AreBytes more → AreBytes (cond b (d ∷ acc) more)
one_or_more true d acc more k h g = (k, h)
one_or_more false d acc more k h g = g

onto_bytes : (k n : ℕ) (acc : List ℕ) → AreBytes acc → AreBytes (digits_onto k 10 false n acc)
onto_bytes zero n acc h = h
onto_bytes (suc k) n acc h =
    let small : digit_glyph false (n % 10) < 256 = digit_small (n % 10) (omega arith) in
    one_or_more (n / 10 == 0) (digit_glyph false (n % 10)) acc _ small h (onto_bytes k (n / 10) (digit_glyph false (n % 10) ∷ acc) (small, h))

-- the digits of a number are bytes
pub digits_bytes : (n : ℕ) → AreBytes (digits n)
unfolding all_digits
digits_bytes n = onto_bytes 64 n [] tt

-- an encrypted charstring is bytes
pub body_bytes : (iv : ℕ) (c : List ℕ) → AreBytes c → AreBytes (sealed_body iv c)
body_bytes iv c h = sealed_bytes 4330 iv c (omega arith) h

blank : 32 < 256
blank = omega arith

line : 10 < 256
line = omega arith

-- a blank and more
blank_bytes : (bs : List ℕ) → AreBytes bs → AreBytes (32 ∷ bs)
blank_bytes bs h = (blank, h)

-- ---- the tables

behind_bytes : (b : Body) → AreBytes b.rd → AreBytes b.bytes → AreBytes b.phrase → AreBytes (body_text b)
behind_bytes b rd bytes phrase =
    let t3 : List ℕ = b.bytes ++ (32 ∷ b.phrase) in
    let t2 : List ℕ = b.rd ++ (32 ∷ t3) in
    let b3 = AreBytes-append b.bytes (32 ∷ b.phrase) bytes (blank_bytes b.phrase phrase) in
    let b2 = AreBytes-append b.rd (32 ∷ t3) rd (blank_bytes t3 b3) in
    blank_bytes (digits (length b.bytes) ++ (32 ∷ t2)) (AreBytes-append (digits (length b.bytes)) (32 ∷ t2) (digits_bytes (length b.bytes)) (blank_bytes t2 b2))

entries_bytes : {K : Type 0} (key_text : K → List ℕ) (iv : ℕ) (rd phrase closing : List ℕ) → AreBytes rd → AreBytes phrase →
    AreBytes closing → (es : List (K × List ℕ)) → AllByRecursion (λ e. AreBytes (key_text e.0) × AreBytes e.1) es →
    AreBytes (entries_text key_text (map (sealed_entry iv rd phrase) es) closing)
entries_bytes key_text iv rd phrase closing r p c [] all = (line, c)
entries_bytes key_text iv rd phrase closing r p c (e ∷ es) all =
    let b : Body = record { rd = rd; bytes = sealed_body iv e.1; phrase = phrase } in
    AreBytes-append (entry_text key_text (sealed_entry iv rd phrase e)) (entries_text key_text (map (sealed_entry iv rd phrase) es) closing)
    (line, AreBytes-append (key_text e.0) (body_text b) all.0.0 (behind_bytes b r (body_bytes iv e.1 all.0.1) p))
    (entries_bytes key_text iv rd phrase closing r p c es all.1)

index_bytes : (i : ℕ) → AreBytes (index_text i)
index_bytes i = AreBytes-append (codes "dup ") (digits i) (small_bytes (codes "dup ") refl) (digits_bytes i)

name_bytes : (n : List ℕ) → AreBytes n → AreBytes (name_text n)
name_bytes n h = AreBytes-append (codes "/") n (small_bytes (codes "/") refl) h

part_bytes : (iv : ℕ) (o : Option SubrsShell) (m : SparseArray) → SubrsBytes o → ((i : ℕ) (c : List ℕ) → get m i ≡ Some c → AreBytes c) →
    AreBytes (subrs_part (option_map (subrs_pieces iv (entries m)) o))
part_bytes iv None m h k = tt
part_bytes iv (Some t) m h k =
    let all = entries_all nat_cmp_total nat_cmp-IsAntisymmetric (λ i c. AreBytes (index_text i) × AreBytes c) m (λ i c e. (index_bytes i, k i c e)) in
    let table : List ℕ = subrs_text (map (subr_entry iv t) (entries m)) t.closing in
    let table_is = entries_bytes index_text iv t.rd t.put t.closing h.0 h.1 h.2 (entries m) all in
    AreBytes-append (codes "/Subrs ") (digits t.declared ++ (codes " array" ++ table)) (small_bytes (codes "/Subrs ") refl)
    (AreBytes-append (digits t.declared) (codes " array" ++ table) (digits_bytes t.declared)
    (AreBytes-append (codes " array") table (small_bytes (codes " array") refl) table_is))

-- the canonical private text of a value of bytes is bytes
pub private_bytes : (f : FontValue) → HasBytes f → AreBytes (canon_private f)
private_bytes f h =
    let s = f.shell in
    let gs = map (glyph_entry s) (entries f.glyphs) in
    let o = option_map (subrs_pieces s.len_iv (entries f.subrs)) s.subrs in
    let all = entries_all nat_list_cmp_total name_same (λ n c. AreBytes (name_text n) × AreBytes c) f.glyphs
    (λ n c e. (name_bytes n (h.names n c e), h.glyphs n c e)) in
    let end : List ℕ = s.tail ++ 10 ∷ [] in
    let end_is = AreBytes-append s.tail (10 ∷ []) h.texts.tail (line, tt) in
    let table_is = entries_bytes name_text s.len_iv s.glyphs_rd s.glyphs_def (codes "end") h.rd h.def (small_bytes (codes "end") refl) (entries f.glyphs) all in
    let part_is : AreBytes (glyphs_part gs) =
    AreBytes-append (codes "/CharStrings ") (digits (length gs) ++ (codes " dict dup begin" ++ glyphs_text gs)) (small_bytes (codes "/CharStrings ") refl)
    (AreBytes-append (digits (length gs)) (codes " dict dup begin" ++ glyphs_text gs) (digits_bytes (length gs))
    (AreBytes-append (codes " dict dup begin") (glyphs_text gs) (small_bytes (codes " dict dup begin") refl) table_is)) in
    AreBytes-append s.private (subrs_part o ++ (s.middle ++ (glyphs_part gs ++ end))) h.texts.private
    (AreBytes-append (subrs_part o) (s.middle ++ (glyphs_part gs ++ end)) (part_bytes s.len_iv s.subrs f.subrs h.subrs_words h.subrs)
    (AreBytes-append s.middle (glyphs_part gs ++ end) h.texts.middle (AreBytes-append (glyphs_part gs) end part_is end_is)))

-- ---- the clear text

puts_bytes : (es : List (ℕ × List ℕ)) → AllByRecursion (λ e. AreBytes e.1) es → AreBytes (puts_text es)
puts_bytes [] all = small_bytes (10 ∷ codes "readonly def") refl
puts_bytes (e ∷ es) all =
    let p : List ℕ = puts_text es in
    AreBytes-append (10 ∷ codes "dup ") (digits e.0 ++ (codes " /" ++ (e.1 ++ (codes " put" ++ p)))) (small_bytes (10 ∷ codes "dup ") refl)
    (AreBytes-append (digits e.0) (codes " /" ++ (e.1 ++ (codes " put" ++ p))) (digits_bytes e.0)
    (AreBytes-append (codes " /") (e.1 ++ (codes " put" ++ p)) (small_bytes (codes " /") refl)
    (AreBytes-append e.1 (codes " put" ++ p) all.0 (AreBytes-append (codes " put") p (small_bytes (codes " put") refl) (puts_bytes es all.1)))))

encoding_bytes : (e : Encoding) → EncodingBytes e → AreBytes (encoding_text (encoding_pieces e))
encoding_bytes (Word w) h = AreBytes-append (codes "/Encoding ") (w ++ codes " def")
    (small_bytes (codes "/Encoding ") refl) (AreBytes-append w (codes " def") h (small_bytes (codes " def") refl))
encoding_bytes (Codes m) h =
    let start : List ℕ = codes "/Encoding 256 array" ++ (10 ∷ codes "0 1 255 {1 index exch /.notdef put} for") in
    AreBytes-append start (puts_text (entries m)) (small_bytes start refl)
    (puts_bytes (entries m) (entries_all nat_cmp_total nat_cmp-IsAntisymmetric (λ c n. AreBytes n) m h))

-- the canonical clear text of a value of bytes is bytes
pub clear_bytes : (f : FontValue) → HasBytes f → AreBytes (canon_clear f)
clear_bytes f h =
    let e = encoding_text (encoding_pieces f.encoding) in
    let end : List ℕ = f.shell.clear_tail ++ 10 ∷ [] in
    AreBytes-append f.shell.head (e ++ end) h.texts.head
    (AreBytes-append e end (encoding_bytes f.encoding h.encoding) (AreBytes-append f.shell.clear_tail (10 ∷ []) h.texts.clear_tail (line, tt)))

-- ---- the file

segment_bytes : (kind : ℕ) (bytes : List ℕ) → kind < 256 → AreBytes bytes → AreBytes (segment_text kind bytes)
segment_bytes kind bytes k h = (omega arith, (k, (omega arith, (omega arith, (omega arith, (omega arith, h))))))

digits_small : (b : ℕ) → b < 256 → AreBytes (hex_byte b)
digits_small b h = small_bytes (hex_byte b) (agree_below_at (λ b. are_small (hex_byte b)) (λ _. true) 256 b refl h)

hex_bytes : (n : ℕ) (bs : List ℕ) → AreBytes bs → AreBytes (hex_rest n bs)
hex_bytes n [] h = (line, tt)
hex_bytes zero (b ∷ bs) h = (line, AreBytes-append (hex_byte b) (hex_rest 31 bs) (digits_small b h.0) (hex_bytes 31 bs h.1))
hex_bytes (suc n) (b ∷ bs) h = AreBytes-append (hex_byte b) (hex_rest n bs) (digits_small b h.0) (hex_bytes n bs h.1)

lines_bytes : (bs : List ℕ) → AreBytes bs → AreBytes (hex_lines bs)
lines_bytes [] h = tt
lines_bytes (b ∷ bs) h = AreBytes-append (hex_byte b) (hex_rest 31 bs) (digits_small b h.0) (hex_bytes 31 bs h.1)

trailer_bytes : AreBytes trailer
trailer_bytes = small_bytes trailer refl

-- the cipher of that private text is bytes
pub cipher_bytes : (f : FontValue) → HasBytes f → AreBytes (private_cipher (canon_private f))
cipher_bytes f h = sealed_bytes 55665 4 (canon_private f) (omega arith) (private_bytes f h)

-- the canonical file of a value of bytes is bytes
pub canon_bytes : (f : FontValue) (form : Form) → HasBytes f → AreBytes (canon f form)
canon_bytes f Pfa h =
    let c = private_cipher (canon_private f) in
    AreBytes-append (canon_clear f) (hex_lines c ++ trailer) (clear_bytes f h)
    (AreBytes-append (hex_lines c) trailer (lines_bytes c (cipher_bytes f h)) trailer_bytes)
canon_bytes f Pfb h =
    let c = private_cipher (canon_private f) in
    let e : List ℕ = 128 ∷ 3 ∷ [] in
    AreBytes-append (segment_text 1 (canon_clear f)) (segment_text 2 c ++ (segment_text 1 trailer ++ e))
    (segment_bytes 1 (canon_clear f) (omega arith) (clear_bytes f h))
    (AreBytes-append (segment_text 2 c) (segment_text 1 trailer ++ e) (segment_bytes 2 c (omega arith) (cipher_bytes f h))
    (AreBytes-append (segment_text 1 trailer) e (segment_bytes 1 trailer (omega arith) trailer_bytes) (small_bytes e refl)))

-- ---- a font has bytes

encoding_has : (e : Encoding) → IsEncoding e → EncodingBytes e
encoding_has (Word w) h = h.bytes
encoding_has (Codes m) h = λ c n e. (h c n e).name.bytes

words_bytes : (es : List (ℕ × List ℕ)) (s : SubrsShell) → SubrWords es s → AreBytes s.rd × AreBytes s.put
words_bytes [] s h = (subst AreBytes (sym h.0) tt, subst AreBytes (sym h.1) tt)
words_bytes (e ∷ es) s h = (h.0.bytes, h.1.bytes)

words_have : (s : Shell) (o : Option SubrsShell) (m : SparseArray) → SubrsFit s o m → SubrsBytes o
words_have s None m h = tt
words_have s (Some t) m h = let w = words_bytes (entries m) t h.words in (w.0, w.1, h.closing.bytes)

subrs_have : (s : Shell) (o : Option SubrsShell) (m : SparseArray) → SubrsFit s o m → (i : ℕ) (c : List ℕ) → get m i ≡ Some c → AreBytes c
subrs_have s None m h i c e = Some_None (sym e ∙ get-entries m i ∙ ap (find nat_cmp i) h.0)
subrs_have s (Some t) m h i c e = (h.bodies i c e).bytes

-- a font is a value of bytes
pub has_bytes : (f : FontValue) → IsFont f → HasBytes f
has_bytes f h = record {
  texts = h.texts;
  encoding = encoding_has f.encoding h.encoding;
  subrs_words = words_have f.shell f.shell.subrs f.subrs h.subrs;
  subrs = subrs_have f.shell f.shell.subrs f.subrs h.subrs;
  rd = h.glyphs.rd.bytes;
  def = h.glyphs.def.bytes;
  names = λ n c e. (h.glyphs.names n c e).bytes;
  glyphs = λ n c e. (h.glyphs.bodies n c e).bytes;
}
