-- The pieces of a font can be written, and give the font again.
use Rattle.std.proofs.{Common.{◌≡◌, ℕ, ◌+◌, ◌<◌, Ordering, true, false, List, [], ◌∷◌, map, length, Option, Some, None, is_some, refl, sym, ap, ◌∙◌, arith, true≢false}, lemmas.List.{length-map}}
use Rattle.std.specs.{List.{AllByRecursion}, Option.{option_map}, Str.{bytes_eq}, Ordering.{nat_cmp}, Cmp.{IsTotalOrder, nat_cmp_total}, Cmp.Lexicographic.{nat_list_cmp_total}}
use Rattle.std.specs.FinMap.{FinMap, find, get, entries, entries_sorted, len-entries, contains_key, get-entries, same_map, IsAntisymmetric, nat_cmp-IsAntisymmetric, slice_cmp-IsAntisymmetric}
use Rattle.t1_bytes.proofs.Ciphers.{opened-sealed, length-sealed}
use Rattle.t1_bytes.specs.Cipher.{plain_of}
use Rattle.t1_font.specs.FontValue.{FontValue, Shell, SubrsShell, Encoding, Word, Codes, SparseArray, CharStrings, name_cmp, notdef}
use Rattle.t1_font.specs.ReadFont.{encoding_value, of_first, subrs_shell, subr_entries, font_of}
use Rattle.t1_text.specs.{Entries.{map_of, names_of, last_value, unless_notdef}, Entry.{plain_entries}, FontWords.{IsWord, IsPhrase, IsCharstring}}
use Rattle.t1_font.specs.Canon.{sealed_body, sealed_entry, subr_entry, glyph_entry, subrs_pieces, inside_of, outside_of, encoding_pieces}
use Rattle.t1_font.specs.IsFont.{IsFont, SubrsFit, SubrWords, IsCode, IsEncoding}
use Rattle.t1_font.proofs.{canonical.EntriesWritten.{IsEntry}, canonical.PrivateWritten.{AreOptional, IsWritable}, canonical.ClearWritten.{IsEncodingText}}
use Rattle.t1_text.proofs.MapLaws.{get-map_of, get-names_of}
use Rattle.t1_font.proofs.MapLemmas.{entries_all, T_true, last-sorted}

-- numbers that tie are one
pub number_same : IsAntisymmetric nat_cmp
number_same = nat_cmp-IsAntisymmetric

-- names that are equal in order are equal
pub name_same : IsAntisymmetric name_cmp
name_same = slice_cmp-IsAntisymmetric nat_cmp-IsAntisymmetric

-- ---- charstrings

-- an encrypted charstring is decrypted to itself
pub plain_again : (iv : ℕ) (plain : List ℕ) → plain_of iv (sealed_body iv plain) ≡ plain
plain_again iv plain = opened-sealed 4330 iv plain

pub length-body : (iv : ℕ) (plain : List ℕ) → length (sealed_body iv plain) ≡ iv + length plain
length-body iv plain = length-sealed 4330 iv plain

-- ---- the entries of a map make it again

module _ {K : Type 0} {R : K → K → Ordering} (o : IsTotalOrder R) (same : IsAntisymmetric R) where
  -- the last value of a key among the entries of a map is its value
  pub last_again : (m : FinMap R (List ℕ)) (q : K) → last_value R q (entries m) ≡ get m q
  last_again m q = last-sorted o same q (entries m) (T_true _ (entries_sorted m)) ∙ sym (get-entries m q)

  -- the entries of a map make the map
  pub map_again : (m : FinMap R (List ℕ)) → map_of (entries m) ≡ m
  map_again m = same_map o same (map_of (entries m)) m (λ q. get-map_of o same (entries m) q ∙ last_again m q)

  -- a map without `.notdef` among its names
  pub names_again : (m : FinMap R (List ℕ)) → ((q : K) (n : List ℕ) → get m q ≡ Some n → bytes_eq notdef n ≡ false) → names_of (entries m) ≡ m
  names_again m h =
      same_map o same (names_of (entries m)) m (λ q. get-names_of o same (entries m) q ∙ (ap unless_notdef (last_again m q) ∙ kept (get m q) (h q)))
    where
      kept : (v : Option (List ℕ)) → ((n : List ℕ) → v ≡ Some n → bytes_eq notdef n ≡ false) → unless_notdef v ≡ v
      kept None k = refl
      kept (Some n) k = rw (k n refl) refl

-- ---- the entries, written and read

opened_again : {K : Type 0} (iv : ℕ) (rd phrase : List ℕ) (es : List (K × List ℕ)) → plain_entries iv (map (sealed_entry iv rd phrase) es) ≡ es
opened_again iv rd phrase [] = refl
opened_again iv rd phrase (e ∷ es) = λ i. (e.0, plain_again iv e.1 i) ∷ opened_again iv rd phrase es i

rd_again : (iv : ℕ) (s : SubrsShell) (es : List (ℕ × List ℕ)) → SubrWords es s → of_first (λ e. e.body.rd) (map (subr_entry iv s) es) ≡ s.rd
rd_again iv s [] h = sym h.0
rd_again iv s (e ∷ es) h = refl

put_again : (iv : ℕ) (s : SubrsShell) (es : List (ℕ × List ℕ)) → SubrWords es s → of_first (λ e. e.body.phrase) (map (subr_entry iv s) es) ≡ s.put
put_again iv s [] h = sym h.1
put_again iv s (e ∷ es) h = refl

-- a map with a key has entries
glyph_words_at : (s : Shell) (es : List (List ℕ × List ℕ)) → 0 < length es →
    (of_first (λ g. g.body.rd) (map (glyph_entry s) es) ≡ s.glyphs_rd) × (of_first (λ g. g.body.phrase) (map (glyph_entry s) es) ≡ s.glyphs_def)
glyph_words_at s [] h = absurd (omega arith)
glyph_words_at s (e ∷ es) h = (refl, refl)

has_entries : {K X : Type 0} (R : K → K → Ordering) (es : List (K × X)) (k : K) → is_some (find R k es) ≡ true → 0 < length es
has_entries R [] k h = absurd (true≢false (sym h))
has_entries R (e ∷ es) k h = omega arith

glyph_words_again : (s : Shell) (m : CharStrings) → contains_key m notdef ≡ true → (of_first (λ g. g.body.rd) (map (glyph_entry s) (entries m)) ≡ s.glyphs_rd)
    × (of_first (λ g. g.body.phrase) (map (glyph_entry s) (entries m)) ≡ s.glyphs_def)
glyph_words_again s m h = glyph_words_at s (entries m) (has_entries name_cmp (entries m) notdef (sym (ap is_some (get-entries m notdef)) ∙ h))

-- ---- the Encoding

encoding_again : (e : Encoding) → IsEncoding e → encoding_value (encoding_pieces e) ≡ e
encoding_again (Word w) h = refl
encoding_again (Codes m) h = ap Codes (names_again nat_cmp_total nat_cmp-IsAntisymmetric m (λ q n e. (h q n e).put))

-- the Encoding of a font can be written
pub encoding_writable : (e : Encoding) → IsEncoding e → IsEncodingText (encoding_pieces e)
encoding_writable (Word w) h = h
encoding_writable (Codes m) h = entries_all nat_cmp_total nat_cmp-IsAntisymmetric IsCode m h

-- ---- the subroutines

subrs_again : (s : Shell) (o : Option SubrsShell) (m : SparseArray) → SubrsFit s o m →
    option_map subrs_shell (option_map (subrs_pieces s.len_iv (entries m)) o) ≡ o
subrs_again s None m h = refl
subrs_again s (Some t) m h = λ i. Some
    (record { declared = t.declared; rd = rd_again s.len_iv t (entries m) h.words i; put = put_again s.len_iv t (entries m) h.words i; closing = t.closing })

none_again : (m : SparseArray) → entries m ≡ [] → map_of [] ≡ m
none_again m h = ap map_of (sym h) ∙ map_again nat_cmp_total nat_cmp-IsAntisymmetric m

map_subrs : (s : Shell) (gs : List (List ℕ × List ℕ)) (o : Option SubrsShell) (m : SparseArray) → SubrsFit s o m →
    map_of (subr_entries (record {
      private = s.private;
      len_iv = s.len_iv;
      subrs = option_map (subrs_pieces s.len_iv (entries m)) o;
      middle = s.middle;
      glyphs = map (glyph_entry s) gs;
      tail = s.tail;
    })) ≡ m
map_subrs s gs None m h = none_again m h.0
map_subrs s gs (Some t) m h = ap map_of (opened_again s.len_iv t.rd t.put (entries m)) ∙ map_again nat_cmp_total nat_cmp-IsAntisymmetric m

-- the font of its pieces
pub font_again : (f : FontValue) → IsFont f →
    font_of (outside_of f.shell (encoding_pieces f.encoding)) (inside_of f.shell (entries f.subrs) (entries f.glyphs)) ≡ f
font_again f h =
    let e = encoding_again f.encoding h.encoding in
    let o = subrs_again f.shell f.shell.subrs f.subrs h.subrs in
    let s = map_subrs f.shell (entries f.glyphs) f.shell.subrs f.subrs h.subrs in
    let w = glyph_words_again f.shell f.glyphs h.glyphs.notdef in
    let g : map_of (plain_entries f.shell.len_iv (map (glyph_entry f.shell) (entries f.glyphs))) ≡ f.glyphs =
    ap map_of (opened_again f.shell.len_iv f.shell.glyphs_rd f.shell.glyphs_def (entries f.glyphs)) ∙ map_again nat_list_cmp_total name_same f.glyphs in
    λ i. record {
      shell = record {
        head = f.shell.head;
        clear_tail = f.shell.clear_tail;
        private = f.shell.private;
        middle = f.shell.middle;
        tail = f.shell.tail;
        len_iv = f.shell.len_iv;
        subrs = o i;
        glyphs_rd = w.0 i;
        glyphs_def = w.1 i;
      };
      encoding = e i;
      subrs = s i;
      glyphs = g i;
    }

-- ---- the pieces can be written

entries_writable : {K : Type 0} (IsKey : K → Type 0) (iv : ℕ) (rd phrase : List ℕ) → IsWord 32 rd → IsPhrase true phrase → (es : List (K × List ℕ)) →
    AllByRecursion (λ e. IsKey e.0 × IsCharstring iv e.1) es → AllByRecursion (IsEntry IsKey iv) (map (sealed_entry iv rd phrase) es)
entries_writable IsKey iv rd phrase r p [] all = tt
entries_writable IsKey iv rd phrase r p (e ∷ es) all = (
  (all.0.0, record { long = omega (arith, length-body iv e.1); short = omega (arith, length-body iv e.1, all.0.1.short); rd = r; phrase = p }),
  entries_writable IsKey iv rd phrase r p es all.1,
)

subr_writable : (iv : ℕ) (s : SubrsShell) (es : List (ℕ × List ℕ)) → SubrWords es s → AllByRecursion (λ e. (e.0 < s.declared) × IsCharstring iv e.1) es →
    AllByRecursion (IsEntry (λ i. i < s.declared) iv) (map (subr_entry iv s) es)
subr_writable iv s [] w all = tt
subr_writable iv s (e ∷ es) w all = entries_writable (λ i. i < s.declared) iv s.rd s.put w.0 w.1 (e ∷ es) all

subrs_writable : (s : Shell) (o : Option SubrsShell) (m : SparseArray) → SubrsFit s o m →
    AreOptional s.len_iv s.middle (option_map (subrs_pieces s.len_iv (entries m)) o)
subrs_writable s None m h = h.1
subrs_writable s (Some t) m h = record {
  declared = h.declared;
  entries = subr_writable s.len_iv t (entries m) h.words
      (entries_all nat_cmp_total nat_cmp-IsAntisymmetric (λ i c. (i < t.declared) × IsCharstring s.len_iv c) m (λ i c e. (h.below i c e, h.bodies i c e)));
  closing = h.closing;
}

-- the private text of a font can be written
pub font_writable : (f : FontValue) → IsFont f → IsWritable (inside_of f.shell (entries f.subrs) (entries f.glyphs))
font_writable f h =
    let p = h.private in
    record {
      iv = p.iv;
      no_subrs = p.no_subrs;
      no_chars = p.no_chars;
      middle_apart = p.middle_apart;
      middle_chars = p.middle_chars;
      middle_subrs = p.middle_subrs;
      tail_apart = p.tail_apart;
      tail_subrs = p.tail_subrs;
      tail_ends = p.tail_ends;
      subrs = subrs_writable f.shell f.shell.subrs f.subrs h.subrs;
      glyphs = entries_writable (IsWord 127) f.shell.len_iv f.shell.glyphs_rd f.shell.glyphs_def h.glyphs.rd h.glyphs.def
          (entries f.glyphs) (entries_all nat_list_cmp_total name_same
          (λ n c. IsWord 127 n × IsCharstring f.shell.len_iv c) f.glyphs (λ n c e. (h.glyphs.names n c e, h.glyphs.bodies n c e)));
      few = omega (arith, length-map (entries f.glyphs) (glyph_entry f.shell), len-entries f.glyphs, h.glyphs.few);
    }
