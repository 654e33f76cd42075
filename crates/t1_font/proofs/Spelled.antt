-- What the reading of a file spells is what `Spelling.antt` says, part by part.
use Rattle.std.proofs.Common.{◌≡◌, ℕ, ◌≤◌, true, cond, Bool, ltb, List, [], ◌++◌, length, take, Option, Some, None, Ok, refl, sym, ap, subst, ◌∙◌, inl, inr}
use Rattle.std.proofs.lemmas.Bool.{cases_Bool, ltb-true, ltb-false, lt-ltb, le-ltb, leb-true, le-leb}
use Rattle.t1_grammar.specs.{Grammar.{first, AtFront, Lacks, front_again}, Tables.{TableAt}, Formats.{MayOccur, occurs_again, one_value}}
use Rattle.t1_bytes.specs.{Cipher.{decrypted, private_text}, Limits.{file_limit}, FlatText.{IsFlat}}
use Rattle.t1_bytes.proofs.{FlatTexts.{flat_said, said_flat}, Splits.{split_said, said_split}}
use Rattle.t1_text.specs.{declared.dialect.Spacing.{Spacing}, declared.dialect.Dialect.{Dialect}, Glyphs.{Glyph, glyph, glyphs_end}, Encoding.{Opening, Whole, OpensPuts, OpensNames, encoding_start}}
use Rattle.t1_text.specs.Markers.{subrs_marker, closefile, len_iv_marker}
use Rattle.t1_font.specs.Pieces.{FlatPieces, EncodingText, OneWord, Puts, ClearPieces, SubrsPieces, PrivatePieces, flat_pieces, encoding_from, clear_pieces, iv_at, iv_of, through, tail_after}
use Rattle.t1_font.specs.{Pieces.{glyphs_from, before_place, tables_from, private_pieces}, FontValue.{FontValue, notdef, FitsLimits}}
use Rattle.t1_font.specs.ReadFont.{font_of, flat_reading, font_from, font_texts, font_file}
use Rattle.t1_font.specs.Spelling.{SpellsEncoding, IsClear, IsLenIV, said, unsaid, nowhere, later, Start, SpellsTables, HasGlyphs, IsPrivate, HasTexts, HasPieces, SpellsIn}
use Rattle.t1_font.proofs.{FileParts.{split_lead}, ValueLaws.{notdef_is, within_of, within_again, private_enciphers, private_again, lead_length}}
use Rattle.std.specs.FinMap as maps

-- ---- the clear text

encoding_is : (d : Dialect) (clear after : List ℕ) (start : Opening) (rest : List ℕ) (e : EncodingText × List ℕ) →
    AtFront (encoding_start d) after (start, rest) → (encoding_from d clear start rest).Spells e → SpellsEncoding d e.0 after e.1
unfolding encoding_from
encoding_is d clear after (Whole w) rest e a s = subst (λ (x : EncodingText × List ℕ). SpellsEncoding d x.0 after x.1) s a
encoding_is d clear after OpensPuts rest e a s =
    subst (λ (x : EncodingText × List ℕ). SpellsEncoding d x.0 after x.1) s.2 (inl (s.0.0, rest, s.0.1, refl, a, s.1))
encoding_is d clear after OpensNames rest e a s =
    subst (λ (x : EncodingText × List ℕ). SpellsEncoding d x.0 after x.1) s.2 (inr (s.0.0, rest, s.0.1, refl, a, s.1))

is_encoding : (d : Dialect) (clear bytes : List ℕ) (enc : EncodingText) (after : List ℕ) → SpellsEncoding d enc bytes after →
    (start : Opening × List ℕ) × AtFront (encoding_start d) bytes start × ((encoding_from d clear start.0 start.1).Spells (enc, after))
unfolding encoding_from
is_encoding d clear bytes (OneWord w) after s = ((Whole w, after), s, refl)
is_encoding d clear bytes (Puts puts) after (inl s) =
    ((OpensPuts, s.1), s.4, ((s.0, s.2, after), s.5, ap (λ (p : List (ℕ × List ℕ)). (Puts p, after)) (sym s.3)))
is_encoding d clear bytes (Puts puts) after (inr s) =
    ((OpensNames, s.1), s.4, ((s.0, s.2, after), s.5, ap (λ (p : List (ℕ × List ℕ)). (Puts p, after)) (sym s.3)))

pub clear_is : (d : Dialect) (clear : List ℕ) (c : ClearPieces) → (clear_pieces d clear).Spells c → IsClear d clear c
unfolding clear_pieces
clear_is d clear c s =
    let encoding = encoding_is d clear s.0.1 s.2.0.0 s.2.0.1 s.2.2.0 s.2.1 s.2.2.1 in
    subst (IsClear d clear) s.2.2.2 (record { after = s.0.1; marker = s.1; encoding = encoding })

pub is_clear : (d : Dialect) (clear : List ℕ) (c : ClearPieces) → IsClear d clear c → (clear_pieces d clear).Spells c
unfolding clear_pieces
is_clear d clear c s =
    let e = is_encoding d clear s.after c.encoding c.clear_tail s.encoding in
    (((c.head, tt), s.after), s.marker, (e.0, e.1, ((c.encoding, c.clear_tail), e.2, refl)))

-- ---- lenIV and the tail

pub iv_spelled : (private : List ℕ) (n : ℕ) → (iv_of private).Spells n → IsLenIV private n
unfolding iv_of iv_at
iv_spelled private n s = by_marker s.0 s.1 s.2
  where
    by_marker : (o : Option ((List ℕ × Unit {0}) × List ℕ)) → MayOccur len_iv_marker private o → (iv_at o).Spells n → IsLenIV private n
    by_marker None l e = unsaid l (sym e)
    by_marker (Some x) m e = subst (IsLenIV private) e.2 (said x.0.0 x.1 e.0.1 m e.1)

pub spells_iv : (private : List ℕ) (n : ℕ) → IsLenIV private n → (iv_of private).Spells n
unfolding iv_of iv_at
spells_iv private n (said front after rest a b) = (Some ((front, tt), after), a, ((n, rest), b, refl))
spells_iv private n (unsaid l e) = (None, l, sym e)

-- what lenIV is read is said
pub iv_is : (private : List ℕ) (n : ℕ) → (iv_of private).read ≡ Ok n → IsLenIV private n
iv_is private n e = iv_spelled private n ((iv_of private).takes n e)

-- the lenIV that a private text spells is read
pub is_iv : (private : List ℕ) (n : ℕ) → IsLenIV private n → (iv_of private).read ≡ Ok n
is_iv private n s = (iv_of private).again n (spells_iv private n s)

-- the tail behind the middle: a font's own text ends with the first `closefile`
record IsTail (middle after tail : List ℕ) : Type 0 where
  pub front : List ℕ
  pub own : List ℕ
  pub rest : List ℕ
  pub close : AtFront (first closefile) after ((front, own), rest)
  pub tail_is : tail ≡ front ++ own
  pub single : Lacks subrs_marker middle × Lacks subrs_marker tail

tail_is : (middle after tail : List ℕ) → (tail_after middle after).Spells tail → IsTail middle after tail
unfolding tail_after
tail_is middle after tail s =
    let found = s.2.2.2.0 in
    let close : s.0 ≡ Some found = sym (occurs_again closefile after s.0 s.1) ∙ front_again (first closefile) after found s.2.2.2.1 in
    let lacks : Lacks subrs_marker (found.0.0 ++ found.0.1) =
    subst (λ (o : Option ((List ℕ × List ℕ) × List ℕ)). Lacks subrs_marker (through o after)) close s.2.2.1 in
    subst (IsTail middle after) s.2.2.2.2
    (record { front = found.0.0; own = found.0.1; rest = found.1; close = s.2.2.2.1; tail_is = refl; single = (s.2.1, lacks) })

is_tail : (middle after tail : List ℕ) → IsTail middle after tail → (tail_after middle after).Spells tail
unfolding tail_after
is_tail middle after tail s =
    let lacks = subst (Lacks subrs_marker) s.tail_is s.single.1 in
    (Some ((s.front, s.own), s.rest), s.close, (tt, s.single.0, (tt, lacks, (((s.front, s.own), s.rest), s.close, sym s.tail_is))))

-- ---- the tables

-- the pieces up to the glyphs, with no glyphs and no tail
abbrev pub made : List ℕ → ℕ → Option SubrsPieces → List ℕ → PrivatePieces
made private iv subrs middle = record { private = private; len_iv = iv; subrs = subrs; middle = middle; glyphs = []; tail = [] }

glyphs_are : (d : Spacing) (text private : List ℕ) (subrs : Option SubrsPieces) (middle : List ℕ) (iv : ℕ) (rest : List ℕ) (p : PrivatePieces) →
    SpellsTables d text (made private iv subrs middle) subrs rest → IsLenIV private iv →
    (glyphs_from (length text) private subrs middle iv rest).Spells p → IsPrivate d text p
unfolding glyphs_from
glyphs_are d text private subrs middle iv rest p tables i s =
    let t = tail_is middle s.0.2 s.2.0 s.2.1 in
    let before = before s.0.0 s.0.1 s.0.2 s.2.0 s.1 in
    subst (IsPrivate d text) s.2.2
    (record { after = s.0.2; front = t.front; own = t.own; rest = t.rest; before = before; close = t.close; tail = t.tail_is; single = t.single })
  where
    moved : (gs : List Glyph) (tail : List ℕ) (o : Option SubrsPieces) → SpellsTables d text (made private iv subrs middle) o rest →
        SpellsTables d text (record (made private iv subrs middle) { glyphs = gs; tail = tail }) o rest
    moved gs tail None h = h
    moved gs tail (Some x) h = h

    before : (gs : List Glyph) (closing after tail : List ℕ) → TableAt (glyph iv) glyphs_end gs closing rest after →
        HasGlyphs d text (record (made private iv subrs middle) { glyphs = gs; tail = tail }) after
    before gs closing after tail t =
        record { start = rest; closing = closing; tables = record { tables = moved gs tail subrs tables; len_iv = i }; glyphs = t }

without_subrs : (d : Spacing) (text : List ℕ) (chars : (List ℕ × Unit {0}) × List ℕ) (p : PrivatePieces) → Start text chars.0.0 None chars.1 →
    (tables_from d (length text) chars None).Spells p → IsPrivate d text p
unfolding tables_from
without_subrs d text chars p a s = glyphs_are d text chars.0.0 None [] s.0 chars.1 p (a, refl) (iv_spelled chars.0.0 s.0 s.1) s.2

with_subrs : (d : Spacing) (text : List ℕ) (chars : (List ℕ × Unit {0}) × List ℕ) (x : (List ℕ × ℕ) × List ℕ) (p : PrivatePieces) →
    Start text x.0.0 (Some x.0.1) x.1 → (tables_from d (length text) chars (Some x)).Spells p → IsPrivate d text p
unfolding tables_from
with_subrs d text chars x p a s =
    let t = s.2.0 in
    let next = s.2.2.0 in
    let subrs : SubrsPieces = record { declared = x.0.1; entries = t.0; closing = t.1 } in
    glyphs_are d text x.0.0 (Some subrs) next.0.0 s.0 next.1 p (x.1, t.2, a, s.2.1, s.2.2.1) (iv_spelled x.0.0 s.0 s.1) s.2.2.2

-- the tables where the marker of Subrs stands before that of CharStrings, or doesn't
abbrev Chosen : Spacing → List ℕ → (List ℕ × Unit {0}) × List ℕ → (List ℕ × ℕ) × List ℕ → PrivatePieces → Bool → Type 0
Chosen d text chars x p b = (tables_from d (length text) chars (cond b (Some x) None)).Spells p

pub private_is : (d : Spacing) (text : List ℕ) (p : PrivatePieces) → (private_pieces d text).Spells p → IsPrivate d text p
unfolding private_pieces
private_is d text p s = by_marker s.2.0 s.2.1 s.2.2
  where
    chars : (List ℕ × Unit {0}) × List ℕ
    chars = s.0

    by_marker : (o : Option ((List ℕ × ℕ) × List ℕ)) → MayOccur subrs_marker text o →
        (tables_from d (length text) chars (before_place (length chars.0.0) o)).Spells p → IsPrivate d text p
    by_marker None l t = without_subrs d text chars p (s.1, nowhere l) t
    by_marker (Some x) m t = elim (cases_Bool (ltb (length x.0.0) (length chars.0.0))) [
      | inl lt ↦ with_subrs d text chars x p (chars.0.0, chars.1, s.1, m, ltb-true _ _ lt) (subst (Chosen d text chars x p) lt t)
      | inr ge ↦ without_subrs d text chars p (s.1, later x.0.0 x.0.1 x.1 m (ltb-false _ _ ge)) (subst (Chosen d text chars x p) ge t)
    ]

pub is_private : (d : Spacing) (text : List ℕ) (p : PrivatePieces) → IsPrivate d text p → (private_pieces d text).Spells p
unfolding private_pieces tables_from glyphs_from
is_private d text p s = by_subrs p.subrs refl b.tables.tables
  where
    b : HasGlyphs d text p s.after
    b = s.before

    iv : (iv_of p.private).Spells p.len_iv
    iv = spells_iv p.private p.len_iv b.tables.len_iv

    tail : (tail_after p.middle s.after).Spells p.tail
    tail = is_tail p.middle s.after p.tail (record { front = s.front; own = s.own; rest = s.rest; close = s.close; tail_is = s.tail; single = s.single })

    glyphs : (middle : List ℕ) (o : Option SubrsPieces) → p.middle ≡ middle → p.subrs ≡ o →
        (glyphs_from (length text) p.private o middle p.len_iv b.start).Spells p
    glyphs middle o m k =
        subst (λ (o : Option SubrsPieces). (glyphs_from (length text) p.private o middle p.len_iv b.start).Spells p) k
        (subst (λ (x : List ℕ). (glyphs_from (length text) p.private p.subrs x p.len_iv b.start).Spells p) m
        ((p.glyphs, b.closing, s.after), b.glyphs, (p.tail, tail, refl)))

    by_subrs : (o : Option SubrsPieces) → p.subrs ≡ o → SpellsTables d text p o b.start → (private_pieces d text).Spells p
    by_subrs None k h =
        let chars : (List ℕ × Unit {0}) × List ℕ = ((p.private, tt), b.start) in
        let tables : (tables_from d (length text) chars None).Spells p = (p.len_iv, iv, glyphs [] None h.1 k) in
        elim h.0.1 [
          | nowhere l ↦ (chars, h.0.0, (None, l, tables))
          | later front declared after a ge ↦
              let x : (List ℕ × ℕ) × List ℕ = ((front, declared), after) in
              (chars, h.0.0, (Some x, a, subst (Chosen d text chars x p) (sym (le-ltb (length front) (length p.private) ge)) tables))
        ]
    by_subrs (Some x) k h =
        let chars : (List ℕ × Unit {0}) × List ℕ = ((h.2.0, tt), h.2.1) in
        let marker : (List ℕ × ℕ) × List ℕ = ((p.private, x.declared), h.0) in
        let tables : (tables_from d (length text) chars (Some marker)).Spells p =
        (p.len_iv, iv, ((x.entries, x.closing, h.1), h.3, (((p.middle, tt), b.start), h.4, glyphs p.middle (Some x) refl k))) in
        (chars, h.2.2, (Some marker, h.2.3, subst (Chosen d text chars marker p) (sym (lt-ltb (length p.private) (length h.2.0) h.2.4)) tables))

-- ---- the font

-- the font of these pieces, which has `.notdef` and is within the limits
record IsFontOf (c : ClearPieces) (p : PrivatePieces) (f : FontValue) : Type 0 where
  pub value : f ≡ font_of c p
  pub has_notdef : maps.contains_key f.glyphs notdef ≡ true
  pub within : FitsLimits f

font_is : (c : ClearPieces) (p : PrivatePieces) (f : FontValue) → (font_from c p).Spells f → IsFontOf c p f
unfolding font_from
font_is c p f s = subst (IsFontOf c p) s.2.2 (record { value = refl; has_notdef = notdef_is c p ∙ s.1; within = within_of c p s.2.1 })

is_font : (c : ClearPieces) (p : PrivatePieces) (f : FontValue) → IsFontOf c p f → (font_from c p).Spells f
unfolding font_from
is_font c p f s =
    let there : maps.contains_key (font_of c p).glyphs notdef ≡ true =
    subst (λ (g : FontValue). maps.contains_key g.glyphs notdef ≡ true) s.value s.has_notdef in
    (tt, sym (notdef_is c p) ∙ there, (tt, within_again c p (subst FitsLimits s.value s.within), sym s.value))

-- ---- the file

pub texts_are : (file flat : List ℕ) (parts : FlatPieces) → length file ≤ file_limit → IsFlat file flat → (flat_pieces flat).Spells parts →
    HasTexts file parts.clear (private_text parts.cipher)
unfolding flat_pieces
texts_are file flat parts short flat_is s = subst (λ (q : FlatPieces). HasTexts file q.clear (private_text q.cipher)) s.2 (record {
  flat = flat;
  at = s.0.0;
  cipher = s.0.1;
  lead = take 4 (decrypted 55665 s.0.1);
  short = short;
  flat_is = flat_is;
  split = split_said flat s.0.0 s.0.1 s.1;
  clear_is = refl;
  secret = private_enciphers s.0.1;
  lead_is = lead_length s.0.1 (split_lead flat s.0.0 s.0.1 (split_said flat s.0.0 s.0.1 s.1));
})

-- what the reading spells is spelled by the file
pub file_spells : (d : Dialect) (file : List ℕ) (font : FontValue) → (font_file d file).Spells font → SpellsIn d file font
unfolding font_file flat_reading
file_spells d file font s =
    let parts = s.2.2.0 in
    let texts = texts_are file s.2.0 parts (leb-true (length file) file_limit s.1) (flat_said file s.2.0 s.2.1) s.2.2.1 in
    let t = s.2.2.2 in
    let clear = clear_is d parts.clear t.0 t.1 in
    let private = private_is d.subrs (private_text parts.cipher) t.2.0 t.2.1 in
    let pieces : HasPieces d file t.0 t.2.0 =
    record { clear = parts.clear; text = private_text parts.cipher; texts = texts; clear_is = clear; private_is = private } in
    let f = font_is t.0 t.2.0 font t.2.2 in
    record { outside = t.0; inside = t.2.0; pieces = pieces; value = f.value; has_notdef = f.has_notdef; within = f.within }

-- and the other way round
pub spells_file : (d : Dialect) (file : List ℕ) (font : FontValue) → SpellsIn d file font → (font_file d file).Spells font
unfolding font_file flat_reading flat_pieces
spells_file d file font s =
    let h = s.pieces in
    let t = h.texts in
    let parts : FlatPieces = record { clear = h.clear; cipher = t.cipher } in
    let private : (private_pieces d.subrs (private_text t.cipher)).Spells s.inside =
    subst (λ (x : List ℕ). (private_pieces d.subrs x).Spells s.inside) (private_again t.lead h.text t.cipher t.secret t.lead_is)
    (is_private d.subrs h.text s.inside h.private_is) in
    let cut : (flat_pieces t.flat).Spells parts =
    ((t.at, t.cipher), said_split t.flat t.at t.cipher t.split, (λ i. record { clear = sym t.clear_is i; cipher = t.cipher })) in
    let font_is = is_font s.outside s.inside font (record { value = s.value; has_notdef = s.has_notdef; within = s.within }) in
    let inside : (font_texts d h.clear (private_text t.cipher)).Spells font =
    (s.outside, is_clear d h.clear s.outside h.clear_is, (s.inside, private, font_is)) in
    (tt, le-leb (length file) file_limit t.short, (t.flat, said_flat file t.flat t.flat_is, (parts, cut, inside)))

-- the font that is read is spelled by the file
pub reads : (d : Dialect) (file : List ℕ) (font : FontValue) → (font_file d file).read ≡ Ok font → SpellsIn d file font
reads d file font e = file_spells d file font ((font_file d file).takes font e)

-- a file that spells a font is read as it
pub reads_again : (d : Dialect) (file : List ℕ) (font : FontValue) → SpellsIn d file font → (font_file d file).read ≡ Ok font
reads_again d file font s = (font_file d file).again font (spells_file d file font s)

-- a file spells at most one font
pub one_font : (d : Dialect) (file : List ℕ) (f g : FontValue) → SpellsIn d file f → SpellsIn d file g → f ≡ g
one_font d file f g s t = one_value (font_file d file) f g (spells_file d file f s) (spells_file d file g t)
