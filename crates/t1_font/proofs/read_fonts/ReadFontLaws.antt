-- What is read of a file of bytes is a font.
use Rattle.std.proofs.lemmas.List.{take-append-drop}
use Rattle.std.proofs.Common.{◌≡◌, ℕ, ◌≤◌, ◌<◌, true, cond, List, [], ◌∷◌, ◌++◌, take, drop, Option, Some, None, is_some, Ok, refl, sym, ap, subst, ◌∙◌, append_assoc, arith, true≢false}
use Rattle.std.specs.{List.{AllByRecursion, list_any}, Option.{option_map}, Str.{bytes_eq}, Ordering.{nat_cmp, is_eq}, Cmp.{nat_cmp_total, tied_itself}, Cmp.Lexicographic.{nat_list_cmp_total}}
use Rattle.std.specs.FinMap.{find, contains_key, nat_cmp-IsAntisymmetric}
use Rattle.t1_bytes.specs.{declared.form.Form.TheVariants.{Pfb}, Cipher.{decrypted, plain_of}, Laws.{AreBytes}, FlatText.{starts_segment, IsFlat}, Split.{IsSplit}}
use Rattle.t1_bytes.proofs.{ContainerLaws.{one_flat}, Ciphers.{decrypted-is}}
use Rattle.t1_grammar.specs.Grammar.{Stops, first, choice, front_again}
use Rattle.t1_text.specs.{declared.dialect.Spacing.{Spacing}, declared.dialect.Dialect.{Dialect}, Words.{is_regular}, Entry.{plain_entries}, Subrs.{Subr}, Markers.{closefile}, Glyphs.{Glyph, glyph}}
use Rattle.t1_text.specs.{Entries.{map_of, last_entries, last_value}, FontWords.{IsWord, IsPhrase}, Dialect.{strict}}
use Rattle.t1_font.specs.{Pieces.{ClearPieces, SubrsPieces, PrivatePieces}, FontValue.{FontValue, SubrsShell, notdef, declared_count, count_limit, FitsLimits}}
use Rattle.t1_font.specs.ReadFont.{font_file, of_first, subrs_of, subrs_shell, glyph_entries, shell_of, font_of, read_font}
use Rattle.t1_font.specs.{Spelling.{IsPrivate, HasTexts, SpellsIn}, Canon.{canon}, IsFont.{IsPrivateShell, SubrWords, SubrsFit, AreGlyphs, IsFont, HasBytes}}
use Rattle.t1_font.proofs.{Spelled.{reads, is_iv}, ValueLaws.{notdef_is}, canonical.FontAgain.{name_same}}
use Rattle.t1_text.proofs.{MapLaws.{entries-map_of, find-last}, MarkerLemmas.{close_parts}, ReadBack.{tail_ends_of}, Bytes.{parts_bytes}, ReadMarkers.{encoding_slash}}
use Rattle.t1_font.proofs.{ByteLemmas.{has_bytes, canon_bytes}, canonical.RoundTrip.{round_trip}}
use Rattle.t1_font.proofs.{read_fonts.ReadBytes.{flat_bytes, cipher_bytes_of, decrypted_bytes, entries_have}, read_fonts.ReadEntries.{IsRead, glyph_of, map_fits}}
use Rattle.t1_font.proofs.{read_fonts.ReadClear.{clear_of}, read_fonts.ReadPrivate.{stops_front, glyphs_stops, IsReadSubrs, middle_of}}

-- ---- Subrs

some_last : (o : Option (List ℕ)) (v : List ℕ) → is_some (choice o (Some v)) ≡ true
some_last None v = refl
some_last (Some x) v = refl

-- a table with entries makes a map with entries
no_entries : (e : ℕ × List ℕ) (es : List (ℕ × List ℕ)) → last_entries nat_cmp (e ∷ es) ≡ [] → ⊥
no_entries e es h =
    let found : last_value nat_cmp e.0 (e ∷ es) ≡ None = sym (find-last nat_cmp_total nat_cmp-IsAntisymmetric e.0 (e ∷ es)) ∙ ap (find nat_cmp e.0) h in
    let there : last_value nat_cmp e.0 (e ∷ es) ≡ choice (last_value nat_cmp e.0 es) (Some e.1) =
    ap (λ r. choice (last_value nat_cmp e.0 es) (cond (is_eq r) (Some e.1) None)) (tied_itself nat_cmp_total e.0) in
    true≢false (sym (some_last (last_value nat_cmp e.0 es) e.1) ∙ ap is_some (sym there ∙ found))

words_by : (l : List (ℕ × List ℕ)) (s : SubrsShell) → (l ≡ [] → ⊥) → IsWord 32 s.rd → IsPhrase true s.put → SubrWords l s
words_by [] s some rd put = absurd (some refl)
words_by (e ∷ es) s some rd put = (rd, put)

words_of : (declared iv : ℕ) (closing : List ℕ) (es : List Subr) → AllByRecursion (IsRead (λ i. i < declared) iv) es →
    SubrWords (last_entries nat_cmp (plain_entries iv es)) (subrs_shell (record { declared = declared; entries = es; closing = closing }))
words_of declared iv closing [] all = (refl, refl)
words_of declared iv closing (e ∷ es) all = words_by _ _ (no_entries (e.key, plain_of iv e.body.bytes) (plain_entries iv es)) all.0.1.rd all.0.1.phrase

-- the Subrs that were read fit the shell that was read
pub subrs_of_font : (c : ClearPieces) (p : PrivatePieces) (o : Option SubrsPieces) → IsReadSubrs p o → declared_count (option_map subrs_shell o) ≤ count_limit →
    SubrsFit (shell_of c p) (option_map subrs_shell o) (map_of (plain_entries p.len_iv (subrs_of o)))
subrs_of_font c p None h few = (entries-map_of nat_cmp_total nat_cmp-IsAntisymmetric [], h)
subrs_of_font c p (Some x) h few =
    let has = map_fits nat_cmp_total nat_cmp-IsAntisymmetric (λ i. i < x.declared) p.len_iv x.entries h.0 in
    record {
      declared = few;
      below = λ i v e. (has i v e).0;
      bodies = λ i v e. (has i v e).1;
      words = subst (λ (l : List (ℕ × List ℕ)). SubrWords l (subrs_shell x))
          (sym (entries-map_of nat_cmp_total nat_cmp-IsAntisymmetric (plain_entries p.len_iv x.entries)))
          (words_of x.declared p.len_iv x.closing x.entries h.0);
      closing = h.1;
    }

-- ---- the glyphs

glyph_words : (iv : ℕ) (gs : List Glyph) → AllByRecursion (IsRead (IsWord 127) iv) gs → list_any (λ g. bytes_eq notdef g.key) gs ≡ true →
    IsWord 32 (of_first (λ g. g.body.rd) gs) × IsPhrase true (of_first (λ g. g.body.phrase) gs)
glyph_words iv [] all some = absurd (true≢false (sym some))
glyph_words iv (g ∷ gs) all some = (all.0.1.rd, all.0.1.phrase)

-- the glyphs that were read are glyphs of a font
pub glyphs_of_font : (c : ClearPieces) (p : PrivatePieces) → AllByRecursion (IsRead (IsWord 127) p.len_iv) p.glyphs →
    contains_key (font_of c p).glyphs notdef ≡ true → FitsLimits (font_of c p) → AreGlyphs (shell_of c p) (map_of (glyph_entries p))
glyphs_of_font c p h some within =
    let has = map_fits nat_list_cmp_total name_same (IsWord 127) p.len_iv p.glyphs h in
    let words = glyph_words p.len_iv p.glyphs h (sym (notdef_is c p) ∙ some) in
    record {
      rd = words.0;
      def = words.1;
      names = λ n v e. (has n v e).0;
      bodies = λ n v e. (has n v e).1;
      notdef = some;
      few = within.glyphs;
    }

-- ---- the private text

-- what is known of the private text
pub record IsReadPrivate (c : ClearPieces) (p : PrivatePieces) : Type 0 where
  pub shell : IsPrivateShell (shell_of c p)
  pub private : AreBytes p.private
  pub middle : AreBytes p.middle
  pub tail : AreBytes p.tail
  pub subrs : IsReadSubrs p p.subrs
  pub glyphs : AllByRecursion (IsRead (IsWord 127) p.len_iv) p.glyphs

-- the private text that bytes spell is that of a font
pub private_of : (d : Spacing) (text : List ℕ) (c : ClearPieces) (p : PrivatePieces) → IsPrivate d text p → AreBytes text → IsReadPrivate c p
private_of d text c p s h =
    let m = middle_of d text p p.subrs s.before.start s.before.tables.tables h in
    let t = s.before.glyphs in
    let a = parts_bytes s.before.start t.0 s.after t.1 m.0.after in
    let b = parts_bytes t.0 t.2.0 t.2.1 t.2.2 a.0 in
    let found = front_again (first closefile) s.after ((s.front, s.own), s.rest) s.close in
    let whole : s.after ≡ p.tail ++ s.rest = close_parts s.after s.front s.own s.rest found ∙ ap (λ (u : List ℕ). u ++ s.rest) (sym s.tail) in
    record {
      shell = record {
        iv = is_iv p.private p.len_iv s.before.tables.len_iv;
        no_subrs = m.0.no_subrs;
        no_chars = m.0.no_chars;
        middle_apart = m.0.apart;
        middle_chars = m.0.middle_chars;
        middle_subrs = s.single.0;
        tail_apart = stops_front p.tail s.rest (subst (Stops is_regular) whole (glyphs_stops s.before.closing t.2.1 s.after t.2.4));
        tail_subrs = s.single.1;
        tail_ends = ap (λ (u : List ℕ). option_map (λ y. y.1) ((first closefile).read u)) s.tail ∙ tail_ends_of s.after ((s.front, s.own), s.rest) found;
      };
      private = m.0.private;
      middle = m.0.middle;
      tail = (parts_bytes s.after p.tail s.rest whole a.1).0;
      subrs = m.1;
      glyphs = entries_have (glyph p.len_iv) (IsRead (IsWord 127) p.len_iv) (glyph_of p.len_iv) p.glyphs t.2.0 (t.2.1 ++ s.after) t.2.3 b.0;
    }

-- ---- the file

cut_bytes : (flat : List ℕ) (at : ℕ) (cipher : List ℕ) → IsSplit flat at cipher → AreBytes flat → AreBytes (take at flat) × AreBytes cipher
cut_bytes flat at cipher s h =
    let secret = s.secret in
    let a = parts_bytes flat s.clear s.after s.parts h in
    let b = parts_bytes s.after secret.0 s.rest secret.1 a.1 in
    let clear = parts_bytes flat (take at flat) (drop at flat) (sym (take-append-drop at flat)) h in
    (clear.0, cipher_bytes_of cipher secret.0 s.rest secret.2 b.0)

texts_bytes : (file clear text : List ℕ) → HasTexts file clear text → AreBytes file → AreBytes clear × AreBytes text
texts_bytes file clear text s h =
    let both = cut_bytes s.flat s.at s.cipher s.split (flat_bytes file s.flat s.flat_is h) in
    let plain = parts_bytes (decrypted 55665 s.cipher) s.lead text
    (decrypted-is (s.lead ++ text) s.cipher 55665 s.secret) (decrypted_bytes s.cipher 55665 (omega arith) both.1) in
    (subst AreBytes (sym s.clear_is) both.0, plain.1)

-- what a file of bytes spells is a font
pub spelled_font : (d : Dialect) (file : List ℕ) (f : FontValue) → AreBytes file → SpellsIn d file f → IsFont f
spelled_font d file f h s =
    let c = s.outside in
    let p = s.inside in
    let t = s.pieces.texts in
    let bytes = texts_bytes file s.pieces.clear s.pieces.text t h in
    let clear = clear_of d t.flat t.at s.pieces.clear t.cipher c p t.split t.clear_is s.pieces.clear_is bytes.0 in
    let private = private_of d.subrs s.pieces.text c p s.pieces.private_is bytes.1 in
    let some : contains_key (font_of c p).glyphs notdef ≡ true = subst (λ (f : FontValue). contains_key f.glyphs notdef ≡ true) s.value s.has_notdef in
    let within : FitsLimits (font_of c p) = subst FitsLimits s.value s.within in
    subst IsFont (sym s.value) (record {
      clear = clear.shell;
      private = private.shell;
      texts = record { head = clear.head; clear_tail = clear.tail; private = private.private; middle = private.middle; tail = private.tail };
      encoding = clear.encoding;
      subrs = subrs_of_font c p p.subrs private.subrs within.declared;
      glyphs = glyphs_of_font c p private.glyphs some within;
      light = within.weight;
    })

-- what is read of a file of bytes is a font
pub read_is_font : (d : Dialect) (file : List ℕ) (f : FontValue) → AreBytes file → (font_file d file).read ≡ Ok f → IsFont f
read_is_font d file f h e = spelled_font d file f h (reads d file f e)

-- a font is a value of bytes that its own canonical file spells
pub font_exactly : (f : FontValue) → (IsFont f → HasBytes f × (read_font (canon f Pfb) ≡ Ok f)) × (HasBytes f × (read_font (canon f Pfb) ≡ Ok f) → IsFont f)
font_exactly f = (λ h. (has_bytes f h, round_trip f Pfb h tt), λ s. read_is_font strict (canon f Pfb) f (canon_bytes f Pfb s.0) s.1)

-- ---- the first byte

starts_head : (head rest : List ℕ) → starts_segment head ≡ starts_segment (head ++ (47 ∷ rest))
starts_head [] rest = refl
starts_head (b ∷ head) rest = refl

-- the head of a font begins as its flat text does
spelled_starts : (d : Dialect) (file flat : List ℕ) (f : FontValue) → IsFlat file flat → SpellsIn d file f → starts_segment f.shell.head ≡ starts_segment flat
spelled_starts d file flat f flat_is s =
    let t = s.pieces.texts in
    let c = s.pieces.clear_is in
    let m = c.marker.2 in
    let rest : List ℕ = drop t.at t.flat in
    let slash = encoding_slash m.0 c.after m.2 in
    let same : flat ≡ t.flat = one_flat.texts file flat t.flat flat_is t.flat_is in
    let clear : t.flat ≡ s.pieces.clear ++ rest = sym (take-append-drop t.at t.flat) ∙ ap (λ (u : List ℕ). u ++ rest) (sym t.clear_is) in
    let behind : s.pieces.clear ≡ s.outside.head ++ (47 ∷ (slash.0 ++ c.after)) = c.marker.1
    ∙ (ap (λ (u : List ℕ). u ++ c.after) (m.1 ∙ ap (λ (u : List ℕ). s.outside.head ++ u) slash.1) ∙ append_assoc s.outside.head (47 ∷ slash.0) c.after) in
    let whole : flat ≡ s.outside.head ++ (47 ∷ ((slash.0 ++ c.after) ++ rest)) =
    same ∙ (clear ∙ (ap (λ (u : List ℕ). u ++ rest) behind ∙ append_assoc s.outside.head (47 ∷ (slash.0 ++ c.after)) rest)) in
    ap (λ (g : FontValue). starts_segment g.shell.head) s.value ∙ (starts_head s.outside.head ((slash.0 ++ c.after) ++ rest) ∙ ap starts_segment (sym whole))

-- a font's head begins with byte 128 exactly where its flat text does
pub head_starts : (file flat : List ℕ) (f : FontValue) → IsFlat file flat → read_font file ≡ Ok f → starts_segment f.shell.head ≡ starts_segment flat
head_starts file flat f flat_is e = spelled_starts strict file flat f flat_is (reads strict file f e)
