-- The reason that the reading of a file has is the one that `Reasons.antt` says, part by part.
use Rattle.std.proofs.Common.{◌≡◌, ℕ, ◌≤◌, ◌<◌, ◌-◌, true, false, true≢false, cond, Bool, ltb, List, [], length, Option, Some, None, Err, refl, sym, ap, subst, ◌∙◌, inl, inr}
use Rattle.std.proofs.lemmas.{Bool.{cases_Bool, ltb-true, ltb-false, lt-ltb, le-ltb, leb-true, le-leb, leb-false, lt-leb}, Option.{none-some}}
use Rattle.t1_grammar.specs.{Grammar.{first, first_at, AtFront, Has, Lacks, front_again}, Places.{lacks_unread, occurs, occurs_has, absent_lacks}, Formats.{MayOccur, occurs_takes}}
use Rattle.t1_bytes.specs.{declared.fault.BytesFault.{BytesFault}, Cipher.{private_text}, Limits.{file_limit}, FlatText.{IsFlat, IsBad}, Split.{SplitFails}}
use Rattle.t1_bytes.proofs.{FlatTexts.{flat_said, said_flat, bad_said, said_bad}, Splits.{said_split, fails_said, said_fails}}
use Rattle.t1_text.specs.{declared.dialect.Spacing.{Spacing}, declared.dialect.Spacing.TheVariants.{White, Comments}, declared.dialect.Dialect.{Dialect}, Dialect.{white_in, white_and_comments}}
use Rattle.t1_text.specs.{Glyphs.{Glyph}, Encoding.{Whole, OpensPuts, OpensNames}, Markers.{encoding_marker, subrs_marker, chars_marker, closefile}}
use Rattle.t1_font.specs.{declared.fault.ReadFault.{ReadFault}, Faults.{left_after_white, behind}}
use Rattle.t1_font.specs.declared.fault.ReadFault.TheVariants.{TooLong, BadSegment, NoEexec, ShortCipher, NoEncoding, BadEncoding, NoCharStrings, BadLenIV, BadSubrs, BadGlyphs, Hybrid, NoClosefile}
use Rattle.t1_font.specs.declared.fault.ReadFault.TheVariants.{NoNotdef, Limit, Memory}
use Rattle.t1_font.specs.Pieces.{FlatPieces, ClearPieces, SubrsPieces, PrivatePieces, flat_pieces, encoding_from, clear_pieces, iv_at, iv_of, through, tail_after, glyphs_from}
use Rattle.t1_font.specs.{Pieces.{tables_from, private_pieces}, FontValue.{notdef, FitsLimits}, ReadFont.{font_of, flat_reading, font_from, font_texts, font_file}}
use Rattle.t1_font.specs.Spelling.{IsClear, IsLenIV, nowhere, later, Start, SpellsTables, HasTables, HasGlyphs, HasTexts, HasPieces}
use Rattle.t1_font.specs.Reasons.{IsPlace, EncodingFails, unopened, table_breaks, array_breaks, LenIVFails, SubrsFail, GlyphsFail, unmarked, glyphs_break, IsHybrid, between, before_close, before_end}
use Rattle.t1_font.specs.{Reasons.{NeverCloses, InPrivate, ReasonIn}, Faults.{read_fault}}
use Rattle.t1_font.proofs.{Spelled.{clear_is, is_clear, iv_spelled, spells_iv, made, private_is, is_private, texts_are}, ValueLaws.{notdef_is, within_again, private_again}, FromPieces.{not_within}}
use Rattle.t1_bytes.specs.declared.fault.BytesFault.TheVariants as containers
use Rattle.std.specs.FinMap as maps

-- ---- places

white_reads : (d : Spacing) (bytes : List ℕ) → (x : List ℕ × List ℕ) × ((white_in d).read bytes ≡ Some x)
unfolding white_and_comments
white_reads White bytes = (_, refl)
white_reads Comments bytes = (_, refl)

place_said : (d : Spacing) (text left : List ℕ) → IsPlace d text left (length text - left_after_white d left)
place_said d text left =
    let w = white_reads d left in
    record {
      skipped = w.0.0;
      rest = w.0.1;
      behind = (white_in d).takes left w.0 w.1;
      place = ap (λ (o : Option (List ℕ × List ℕ)). length text - behind o) w.1;
    }

said_place : (d : Spacing) (text left : List ℕ) (at : ℕ) → IsPlace d text left at → at ≡ length text - left_after_white d left
said_place d text left at s =
    s.place ∙ ap (λ (o : Option (List ℕ × List ℕ)). length text - behind o) (sym (front_again (white_in d) left (s.skipped, s.rest) s.behind))

-- ---- the clear text

-- why a clear text says nothing
abbrev ClearFails : Dialect → List ℕ → ReadFault → Type 0
ClearFails d clear NoEncoding = Lacks encoding_marker clear
ClearFails d clear (BadEncoding at) = EncodingFails d clear at
ClearFails d clear e = ⊥

clear_said : (d : Dialect) (clear : List ℕ) (e : ReadFault) → (clear_pieces d clear).Reason e → ClearFails d clear e
unfolding clear_pieces encoding_from
clear_said d clear e (inl r) = subst (ClearFails d clear) (sym r.1) r.0
clear_said d clear e (inr (m, at, inl r)) = subst (ClearFails d clear) (sym r.1) (unopened m.0.0 m.1 at r.0 refl)
clear_said d clear e (inr (m, at, inr ((Whole w, rest), there, inl r))) = absurd r
clear_said d clear e (inr (m, at, inr ((OpensPuts, rest), there, inl (inl r)))) =
    subst (ClearFails d clear) (sym r.2) (table_breaks m.0.0 m.1 rest r.0 at there r.1 (place_said d.encoding clear r.0))
clear_said d clear e (inr (m, at, inr ((OpensPuts, rest), there, inl (inr r)))) = absurd r.2
clear_said d clear e (inr (m, at, inr ((OpensNames, rest), there, inl (inl r)))) =
    subst (ClearFails d clear) (sym r.2) (array_breaks m.0.0 m.1 rest r.0 at there r.1 (place_said d.encoding clear r.0))
clear_said d clear e (inr (m, at, inr ((OpensNames, rest), there, inl (inr r)))) = absurd r.2
clear_said d clear e (inr (m, at, inr (start, there, inr r))) = absurd r.2

said_encoding : (d : Dialect) (clear : List ℕ) (at : ℕ) → EncodingFails d clear at → (clear_pieces d clear).Reason (BadEncoding at)
unfolding clear_pieces encoding_from
said_encoding d clear at (unopened head after m none place) = inr (((head, tt), after), m, inl (none, ap (λ (n : ℕ). BadEncoding n) place))
said_encoding d clear at (table_breaks head after entries left m start breaks place) =
    let e = ap (λ (n : ℕ). BadEncoding n) (said_place d.encoding clear left at place) in
    inr (((head, tt), after), m, inr ((OpensPuts, entries), start, inl (inl (left, breaks, e))))
said_encoding d clear at (array_breaks head after entries left m start breaks place) =
    let e = ap (λ (n : ℕ). BadEncoding n) (said_place d.encoding clear left at place) in
    inr (((head, tt), after), m, inr ((OpensNames, entries), start, inl (inl (left, breaks, e))))

-- ---- the private text

-- why a private text says nothing
abbrev PrivateFails : Spacing → List ℕ → ReadFault → Type 0
PrivateFails d text NoCharStrings = Lacks chars_marker text
PrivateFails d text BadLenIV = LenIVFails text
PrivateFails d text (BadSubrs at) = SubrsFail d text at
PrivateFails d text (BadGlyphs at) = GlyphsFail d text at
PrivateFails d text Hybrid = IsHybrid d text
PrivateFails d text NoClosefile = NeverCloses d text
PrivateFails d text e = ⊥

iv_said : (d : Spacing) (text private : List ℕ) (declared : Option ℕ) (tables : List ℕ) → Start text private declared tables →
    (e : ReadFault) → (iv_of private).Reason e → PrivateFails d text e
unfolding iv_of iv_at
iv_said d text private declared tables start e (inl r) = absurd r
iv_said d text private declared tables start e (inr (None, m, r)) = absurd r
iv_said d text private declared tables start e (inr (Some x, m, inl r)) = subst (PrivateFails d text) (sym r.1)
    (record { private = private; declared = declared; tables = tables; start = start; front = x.0.0; after = x.1; marker = m; bad = r.0 })
iv_said d text private declared tables start e (inr (Some x, m, inr r)) = absurd r.2

-- where the first `closefile` stands, one stands
none_closes : (after : List ℕ) (x : (List ℕ × List ℕ) × List ℕ) → AtFront (first closefile) after x → Lacks closefile after → ⊥
none_closes after x m lacks = none-some x (sym (lacks_unread closefile after lacks) ∙ front_again (first closefile) after x m)

tail_said : (d : Spacing) (text : List ℕ) (p : PrivatePieces) (after : List ℕ) → HasGlyphs d text p after →
    (e : ReadFault) → (tail_after p.middle after).Reason e → PrivateFails d text e
unfolding tail_after
tail_said d text p after g e (inl r) = absurd r
tail_said d text p after g e (inr (close, m, inl r)) = subst (PrivateFails d text) (sym r.1) (between p after g r.0)
tail_said d text p after g e (inr (None, m, inr (u, alone, inl r))) = subst (PrivateFails d text) (sym r.1) (before_end p after g m r.0)
tail_said d text p after g e (inr (Some x, m, inr (u, alone, inl r))) =
    subst (PrivateFails d text) (sym r.1) (before_close p after x.0.0 x.0.1 x.1 g m r.0)
tail_said d text p after g e (inr (None, m, inr (u, alone, inr (v, single, inl r)))) =
    subst (PrivateFails d text) (sym r.1) (record { p = p; after = after; before = g; unclosed = r.0; single = (alone, single) })
tail_said d text p after g e (inr (Some x, m, inr (u, alone, inr (v, single, inl r)))) = absurd (none_closes after x m r.0)
tail_said d text p after g e (inr (close, m, inr (u, alone, inr (v, single, inr r)))) = absurd r.2

-- these pieces with their glyphs
abbrev filled : List ℕ → ℕ → Option SubrsPieces → List ℕ → List Glyph → PrivatePieces
filled private iv subrs middle gs = record { private = private; len_iv = iv; subrs = subrs; middle = middle; glyphs = gs; tail = [] }

filled_tables : (d : Spacing) (text private : List ℕ) (iv : ℕ) (subrs : Option SubrsPieces) (middle rest : List ℕ) (gs : List Glyph) (o : Option SubrsPieces) →
    SpellsTables d text (made private iv subrs middle) o rest → SpellsTables d text (filled private iv subrs middle gs) o rest
filled_tables d text private iv subrs middle rest gs None h = h
filled_tables d text private iv subrs middle rest gs (Some s) h = h

glyphs_said : (d : Spacing) (text private : List ℕ) (subrs : Option SubrsPieces) (middle : List ℕ) (iv : ℕ) (rest : List ℕ) →
    SpellsTables d text (made private iv subrs middle) subrs rest → IsLenIV private iv →
    (e : ReadFault) → (glyphs_from (length text) private subrs middle iv rest).Reason e → PrivateFails d text e
unfolding glyphs_from
glyphs_said d text private subrs middle iv rest tables i e (inl r) = subst (PrivateFails d text) (sym r.2)
    (glyphs_break (made private iv subrs middle) rest r.0 (record { tables = tables; len_iv = i }) r.1 (place_said White text r.0))
glyphs_said d text private subrs middle iv rest tables i e (inr (g, at, inl r)) =
    let p = filled private iv subrs middle g.0 in
    let t : HasTables d text p rest = record { tables = filled_tables d text private iv subrs middle rest g.0 subrs tables; len_iv = i } in
    tail_said d text p g.2 (record { start = rest; closing = g.1; tables = t; glyphs = at }) e r
glyphs_said d text private subrs middle iv rest tables i e (inr (g, at, inr r)) = absurd r.2

none_said : (d : Spacing) (text : List ℕ) (chars : (List ℕ × Unit {0}) × List ℕ) → Start text chars.0.0 None chars.1 →
    (e : ReadFault) → (tables_from d (length text) chars None).Reason e → PrivateFails d text e
unfolding tables_from
none_said d text chars a e (inl r) = iv_said d text chars.0.0 None chars.1 a e r
none_said d text chars a e (inr (iv, i, r)) = glyphs_said d text chars.0.0 None [] iv chars.1 (a, refl) (iv_spelled chars.0.0 iv i) e r

some_said : (d : Spacing) (text : List ℕ) (chars : (List ℕ × Unit {0}) × List ℕ) (x : (List ℕ × ℕ) × List ℕ) → Start text x.0.0 (Some x.0.1) x.1 →
    (e : ReadFault) → (tables_from d (length text) chars (Some x)).Reason e → PrivateFails d text e
unfolding tables_from
some_said d text chars x a e (inl r) = iv_said d text x.0.0 (Some x.0.1) x.1 a e r
some_said d text chars x a e (inr (iv, i, inl r)) = subst (PrivateFails d text) (sym r.2) (record {
  private = x.0.0;
  declared = x.0.1;
  entries = x.1;
  iv = iv;
  left = r.0;
  start = a;
  len_iv = iv_spelled x.0.0 iv i;
  breaks = r.1;
  place = place_said d text r.0;
})
some_said d text chars x a e (inr (iv, i, inr (t, table, inl r))) =
    subst (PrivateFails d text) (sym r.1) (unmarked x.0.0 x.0.1 x.1 iv t.0 t.1 t.2 a (iv_spelled x.0.0 iv i) table r.0 refl)
some_said d text chars x a e (inr (iv, i, inr (t, table, inr (next, there, r)))) =
    let subrs : SubrsPieces = record { declared = x.0.1; entries = t.0; closing = t.1 } in
    glyphs_said d text x.0.0 (Some subrs) next.0.0 iv next.1 (x.1, t.2, a, table, there) (iv_spelled x.0.0 iv i) e r

-- the reason where the marker of Subrs stands before that of CharStrings, or doesn't
abbrev Fails : Spacing → List ℕ → (List ℕ × Unit {0}) × List ℕ → (List ℕ × ℕ) × List ℕ → ReadFault → Bool → Type 0
Fails d text chars x e b = (tables_from d (length text) chars (cond b (Some x) None)).Reason e

private_said : (d : Spacing) (text : List ℕ) (e : ReadFault) → (private_pieces d text).Reason e → PrivateFails d text e
unfolding private_pieces
private_said d text e (inl r) = subst (PrivateFails d text) (sym r.1) r.0
private_said d text e (inr (chars, at, inl r)) = absurd r
private_said d text e (inr (chars, at, inr (None, m, r))) = none_said d text chars (at, nowhere m) e r
private_said d text e (inr (chars, at, inr (Some x, m, r))) = elim (cases_Bool (ltb (length x.0.0) (length chars.0.0))) [
  | inl lt ↦ some_said d text chars x (chars.0.0, chars.1, at, m, ltb-true _ _ lt) e (subst (Fails d text chars x e) lt r)
  | inr ge ↦ none_said d text chars (at, later x.0.0 x.0.1 x.1 m (ltb-false _ _ ge)) e (subst (Fails d text chars x e) ge r)
]

-- ---- the other way round

said_none : (d : Spacing) (text private rest : List ℕ) → Start text private None rest →
    (e : ReadFault) → (tables_from d (length text) ((private, tt), rest) None).Reason e → (private_pieces d text).Reason e
unfolding private_pieces
said_none d text private rest (at, nowhere l) e r = inr (((private, tt), rest), at, inr (None, l, r))
said_none d text private rest (at, later front declared after m ge) e r =
    let x : (List ℕ × ℕ) × List ℕ = ((front, declared), after) in
    inr (((private, tt), rest), at, inr (Some x, m, subst (Fails d text ((private, tt), rest) x e) (sym (le-ltb (length front) (length private) ge)) r))

said_some : (d : Spacing) (text private : List ℕ) (declared : ℕ) (rest : List ℕ) → Start text private (Some declared) rest → (e : ReadFault) →
    ((chars : (List ℕ × Unit {0}) × List ℕ) → (tables_from d (length text) chars (Some ((private, declared), rest))).Reason e) →
    (private_pieces d text).Reason e
unfolding private_pieces
said_some d text private declared rest s e r =
    let chars : (List ℕ × Unit {0}) × List ℕ = ((s.0, tt), s.1) in
    let x : (List ℕ × ℕ) × List ℕ = ((private, declared), rest) in
    inr (chars, s.2, inr (Some x, s.3, subst (Fails d text chars x e) (sym (lt-ltb (length private) (length s.0) s.4)) (r chars)))

said_tables : (d : Spacing) (text : List ℕ) (p : PrivatePieces) (glyphs : List ℕ) → HasTables d text p glyphs →
    (e : ReadFault) → (glyphs_from (length text) p.private p.subrs p.middle p.len_iv glyphs).Reason e → (private_pieces d text).Reason e
unfolding tables_from
said_tables d text p glyphs h e r = by_subrs p.subrs h.tables r
  where
    by_subrs : (o : Option SubrsPieces) → SpellsTables d text p o glyphs →
        (glyphs_from (length text) p.private o p.middle p.len_iv glyphs).Reason e → (private_pieces d text).Reason e
    by_subrs None t k =
        let k2 = subst (λ (m : List ℕ). (glyphs_from (length text) p.private None m p.len_iv glyphs).Reason e) t.1 k in
        said_none d text p.private glyphs t.0 e (inr (p.len_iv, spells_iv p.private p.len_iv h.len_iv, k2))
    by_subrs (Some s) t k = said_some d text p.private s.declared t.0 t.2 e
        (λ chars. inr (p.len_iv, spells_iv p.private p.len_iv h.len_iv, inr ((s.entries, s.closing, t.1), t.3, inr (((p.middle, tt), glyphs), t.4, k))))

said_tail : (d : Spacing) (text : List ℕ) (p : PrivatePieces) (after : List ℕ) → HasGlyphs d text p after →
    (e : ReadFault) → (tail_after p.middle after).Reason e → (private_pieces d text).Reason e
unfolding glyphs_from
said_tail d text p after g e r = said_tables d text p g.start g.tables e (inr ((p.glyphs, g.closing, after), g.glyphs, inl r))

said_iv : (d : Spacing) (text : List ℕ) → LenIVFails text → (private_pieces d text).Reason BadLenIV
unfolding tables_from iv_of iv_at
said_iv d text s = by_start s.declared s.start
  where
    bad : (iv_of s.private).Reason BadLenIV
    bad = inr (Some ((s.front, tt), s.after), s.marker, inl (s.bad, refl))

    by_start : (o : Option ℕ) → Start text s.private o s.tables → (private_pieces d text).Reason BadLenIV
    by_start None t = said_none d text s.private s.tables t BadLenIV (inl bad)
    by_start (Some declared) t = said_some d text s.private declared s.tables t BadLenIV (λ chars. inl bad)

said_subrs : (d : Spacing) (text : List ℕ) (at : ℕ) → SubrsFail d text at → (private_pieces d text).Reason (BadSubrs at)
unfolding tables_from
said_subrs d text at s = said_some d text s.private s.declared s.entries s.start (BadSubrs at) (λ chars.
    inr (s.iv, spells_iv s.private s.iv s.len_iv, inl (s.left, s.breaks, ap (λ (n : ℕ). BadSubrs n) (said_place d text s.left at s.place))))

said_glyphs : (d : Spacing) (text : List ℕ) (at : ℕ) → GlyphsFail d text at → (private_pieces d text).Reason (BadGlyphs at)
unfolding tables_from glyphs_from
said_glyphs d text at (unmarked private declared entries iv subrs closing left start i table none place) =
    said_some d text private declared entries start (BadGlyphs at) (λ chars.
    inr (iv, spells_iv private iv i, inr ((subrs, closing, left), table, inl (none, ap (λ (n : ℕ). BadGlyphs n) place))))
said_glyphs d text at (glyphs_break p glyphs left tables breaks place) =
    said_tables d text p glyphs tables (BadGlyphs at) (inl (left, breaks, ap (λ (n : ℕ). BadGlyphs n) (said_place White text left at place)))

-- a Subrs marker behind the glyphs is found where none stands between the tables
said_behind : (d : Spacing) (text : List ℕ) (p : PrivatePieces) (after : List ℕ) → HasGlyphs d text p after →
    (close : Option ((List ℕ × List ℕ) × List ℕ)) → MayOccur closefile after close → Has subrs_marker (through close after) →
    (private_pieces d text).Reason Hybrid
unfolding tail_after
said_behind d text p after g close m has = elim (cases_Bool (occurs subrs_marker p.middle)) [
  | inl e ↦ said_tail d text p after g Hybrid (inr (close, m, inl (occurs_has subrs_marker p.middle e, refl)))
  | inr e ↦ said_tail d text p after g Hybrid (inr (close, m, inr (tt, absent_lacks subrs_marker p.middle e, inl (has, refl))))
]

said_hybrid : (d : Spacing) (text : List ℕ) → IsHybrid d text → (private_pieces d text).Reason Hybrid
unfolding tail_after
said_hybrid d text (between p after g has) =
    said_tail d text p after g Hybrid (inr (first_at closefile after, occurs_takes closefile after (first_at closefile after) refl, inl (has, refl)))
said_hybrid d text (before_close p after front own rest g close has) = said_behind d text p after g (Some ((front, own), rest)) close has
said_hybrid d text (before_end p after g none has) = said_behind d text p after g None none has

said_unclosed : (d : Spacing) (text : List ℕ) → NeverCloses d text → (private_pieces d text).Reason NoClosefile
unfolding tail_after
said_unclosed d text s = said_tail d text s.p s.after s.before NoClosefile
    (inr (None, s.unclosed, inr (tt, s.single.0, inr (tt, s.single.1, inl (s.unclosed, refl)))))

-- ---- the file

private_lifted : (d : Dialect) (file clear text : List ℕ) (outside : ClearPieces) → HasTexts file clear text → IsClear d clear outside →
    (e : ReadFault) → PrivateFails d.subrs text e → ReasonIn d file e
private_lifted d file clear text outside t c NoCharStrings h = (clear, text, outside, t, c, h)
private_lifted d file clear text outside t c BadLenIV h = (clear, text, outside, t, c, h)
private_lifted d file clear text outside t c (BadSubrs at) h = (clear, text, outside, t, c, h)
private_lifted d file clear text outside t c (BadGlyphs at) h = (clear, text, outside, t, c, h)
private_lifted d file clear text outside t c Hybrid h = (clear, text, outside, t, c, h)
private_lifted d file clear text outside t c NoClosefile h = (clear, text, outside, t, c, h)
private_lifted d file clear text outside t c TooLong h = absurd h
private_lifted d file clear text outside t c (BadSegment at) h = absurd h
private_lifted d file clear text outside t c NoEexec h = absurd h
private_lifted d file clear text outside t c ShortCipher h = absurd h
private_lifted d file clear text outside t c NoEncoding h = absurd h
private_lifted d file clear text outside t c (BadEncoding at) h = absurd h
private_lifted d file clear text outside t c NoNotdef h = absurd h
private_lifted d file clear text outside t c Limit h = absurd h
private_lifted d file clear text outside t c Memory h = absurd h

clear_lifted : (d : Dialect) (file clear text : List ℕ) → HasTexts file clear text → (e : ReadFault) → ClearFails d clear e → ReasonIn d file e
clear_lifted d file clear text t NoEncoding h = (clear, text, t, h)
clear_lifted d file clear text t (BadEncoding at) h = (clear, text, t, h)
clear_lifted d file clear text t TooLong h = absurd h
clear_lifted d file clear text t (BadSegment at) h = absurd h
clear_lifted d file clear text t NoEexec h = absurd h
clear_lifted d file clear text t ShortCipher h = absurd h
clear_lifted d file clear text t NoCharStrings h = absurd h
clear_lifted d file clear text t BadLenIV h = absurd h
clear_lifted d file clear text t (BadSubrs at) h = absurd h
clear_lifted d file clear text t (BadGlyphs at) h = absurd h
clear_lifted d file clear text t Hybrid h = absurd h
clear_lifted d file clear text t NoClosefile h = absurd h
clear_lifted d file clear text t NoNotdef h = absurd h
clear_lifted d file clear text t Limit h = absurd h
clear_lifted d file clear text t Memory h = absurd h

split_lifted : (d : Dialect) (file flat : List ℕ) → length file ≤ file_limit → IsFlat file flat →
    (e : ReadFault) (f : BytesFault) → SplitFails flat f → e ≡ read_fault f → ReasonIn d file e
split_lifted d file flat short flat_is e containers.NoEexec h k = subst (ReasonIn d file) (sym k) (flat, short, flat_is, h)
split_lifted d file flat short flat_is e containers.ShortCipher h k = subst (ReasonIn d file) (sym k) (flat, short, flat_is, h)
split_lifted d file flat short flat_is e (containers.BadSegment at) h k = absurd h
split_lifted d file flat short flat_is e containers.Memory h k = absurd h

font_said : (d : Dialect) (file : List ℕ) (outside : ClearPieces) (inside : PrivatePieces) → HasPieces d file outside inside →
    (e : ReadFault) → (font_from outside inside).Reason e → ReasonIn d file e
unfolding font_from
font_said d file outside inside pieces e (inl r) =
    subst (ReasonIn d file) (sym r.1) (outside, inside, pieces, notdef_is outside inside ∙ r.0)
font_said d file outside inside pieces e (inr (u, there, inl r)) = subst (ReasonIn d file) (sym r.1)
    (outside, inside, pieces, (notdef_is outside inside ∙ there, λ fits. true≢false (sym (within_again outside inside fits) ∙ r.0)))
font_said d file outside inside pieces e (inr (u, there, inr r)) = absurd r.2

texts_said : (d : Dialect) (file clear text : List ℕ) → HasTexts file clear text → (e : ReadFault) → (font_texts d clear text).Reason e → ReasonIn d file e
texts_said d file clear text t e (inl r) = clear_lifted d file clear text t e (clear_said d clear e r)
texts_said d file clear text t e (inr (outside, c, inl r)) =
    private_lifted d file clear text outside t (clear_is d clear outside c) e (private_said d.subrs text e r)
texts_said d file clear text t e (inr (outside, c, inr (inside, p, r))) =
    let outside_is = clear_is d clear outside c in
    let inside_is = private_is d.subrs text inside p in
    font_said d file outside inside (record { clear = clear; text = text; texts = t; clear_is = outside_is; private_is = inside_is }) e r

-- the reason of the reading is the one that is said
pub file_said : (d : Dialect) (file : List ℕ) (e : ReadFault) → (font_file d file).Reason e → ReasonIn d file e
unfolding font_file flat_reading flat_pieces
file_said d file e (inl r) = subst (ReasonIn d file) (sym r.1) (leb-false (length file) file_limit r.0)
file_said d file e (inr (u, short, inl r)) = subst (ReasonIn d file) (sym r.2) (leb-true (length file) file_limit short, bad_said file r.0 r.1)
file_said d file e (inr (u, short, inr (flat, flat_is, inl (inl r)))) =
    split_lifted d file flat (leb-true (length file) file_limit short) (flat_said file flat flat_is) e r.0 (fails_said flat r.0 r.1) r.2
file_said d file e (inr (u, short, inr (flat, flat_is, inl (inr r)))) = absurd r.2
file_said d file e (inr (u, short, inr (flat, flat_is, inr (parts, cut, r)))) =
    let t = texts_are file flat parts (leb-true (length file) file_limit short) (flat_said file flat flat_is) cut in
    texts_said d file parts.clear (private_text parts.cipher) t e r

-- ---- the other way round

said_texts : (d : Dialect) (file clear text : List ℕ) → HasTexts file clear text → (e : ReadFault) →
    (font_texts d clear text).Reason e → (font_file d file).Reason e
unfolding font_file flat_reading flat_pieces
said_texts d file clear text t e r =
    let parts : FlatPieces = record { clear = clear; cipher = t.cipher } in
    let cut : (flat_pieces t.flat).Spells parts =
    ((t.at, t.cipher), said_split t.flat t.at t.cipher t.split, (λ i. record { clear = sym t.clear_is i; cipher = t.cipher })) in
    let inside : (font_texts d clear (private_text t.cipher)).Reason e =
    subst (λ (x : List ℕ). (font_texts d clear x).Reason e) (private_again t.lead text t.cipher t.secret t.lead_is) r in
    inr (tt, le-leb (length file) file_limit t.short, inr (t.flat, said_flat file t.flat t.flat_is, inr (parts, cut, inside)))

said_split_in : (d : Dialect) (file flat : List ℕ) → length file ≤ file_limit → IsFlat file flat → (f : BytesFault) → SplitFails flat f →
    (font_file d file).Reason (read_fault f)
unfolding font_file flat_reading flat_pieces
said_split_in d file flat short flat_is f h =
    inr (tt, le-leb (length file) file_limit short, inr (flat, said_flat file flat flat_is, inl (inl (f, said_fails flat f h, refl))))

said_private : (d : Dialect) (file : List ℕ) (e : ReadFault) (Holds : List ℕ → Type 0) →
    ((text : List ℕ) → Holds text → (private_pieces d.subrs text).Reason e) → InPrivate d file Holds → (font_file d file).Reason e
said_private d file e Holds said (clear, text, outside, t, c, h) =
    said_texts d file clear text t e (inr (outside, is_clear d clear outside c, inl (said text h)))

said_font : (d : Dialect) (file : List ℕ) (outside : ClearPieces) (inside : PrivatePieces) → HasPieces d file outside inside →
    (e : ReadFault) → (font_from outside inside).Reason e → (font_file d file).Reason e
said_font d file outside inside s e r =
    said_texts d file s.clear s.text s.texts e
    (inr (outside, is_clear d s.clear outside s.clear_is, inr (inside, is_private d.subrs s.text inside s.private_is, r)))

said_notdef : (outside : ClearPieces) (inside : PrivatePieces) → maps.contains_key (font_of outside inside).glyphs notdef ≡ false →
    (font_from outside inside).Reason NoNotdef
unfolding font_from
said_notdef outside inside h = inl (sym (notdef_is outside inside) ∙ h, refl)

said_limit : (outside : ClearPieces) (inside : PrivatePieces) → maps.contains_key (font_of outside inside).glyphs notdef ≡ true →
    (FitsLimits (font_of outside inside) → ⊥) → (font_from outside inside).Reason Limit
unfolding font_from
said_limit outside inside h over = inr (tt, sym (notdef_is outside inside) ∙ h, inl (not_within outside inside over, refl))

said_encodings : (d : Dialect) (clear : List ℕ) → Lacks encoding_marker clear → (clear_pieces d clear).Reason NoEncoding
unfolding clear_pieces
said_encodings d clear h = inl (h, refl)

said_charstrings : (d : Spacing) (text : List ℕ) → Lacks chars_marker text → (private_pieces d text).Reason NoCharStrings
unfolding private_pieces
said_charstrings d text h = inl (h, refl)

said_long : (d : Dialect) (file : List ℕ) → file_limit < length file → (font_file d file).Reason TooLong
unfolding font_file
said_long d file h = inl (lt-leb (length file) file_limit h, refl)

said_segment : (d : Dialect) (file : List ℕ) (at : ℕ) → length file ≤ file_limit → IsBad file at → (font_file d file).Reason (BadSegment at)
unfolding font_file flat_reading
said_segment d file at short h = inr (tt, le-leb (length file) file_limit short, inl (at, said_bad file at h, refl))

-- what is said to be the reason is the reason of the reading
pub said_file : (d : Dialect) (file : List ℕ) (e : ReadFault) → ReasonIn d file e → (font_file d file).Reason e
said_file d file TooLong h = said_long d file h
said_file d file (BadSegment at) h = said_segment d file at h.0 h.1
said_file d file NoEexec h = said_split_in d file h.0 h.1 h.2 containers.NoEexec h.3
said_file d file ShortCipher h = said_split_in d file h.0 h.1 h.2 containers.ShortCipher h.3
said_file d file NoEncoding h = said_texts d file h.0 h.1 h.2 NoEncoding (inl (said_encodings d h.0 h.3))
said_file d file (BadEncoding at) h = said_texts d file h.0 h.1 h.2 (BadEncoding at) (inl (said_encoding d h.0 at h.3))
said_file d file NoCharStrings h = said_private d file NoCharStrings _ (said_charstrings d.subrs) h
said_file d file BadLenIV h = said_private d file BadLenIV _ (said_iv d.subrs) h
said_file d file (BadSubrs at) h = said_private d file (BadSubrs at) _ (λ text. said_subrs d.subrs text at) h
said_file d file (BadGlyphs at) h = said_private d file (BadGlyphs at) _ (λ text. said_glyphs d.subrs text at) h
said_file d file Hybrid h = said_private d file Hybrid _ (said_hybrid d.subrs) h
said_file d file NoClosefile h = said_private d file NoClosefile _ (said_unclosed d.subrs) h
said_file d file NoNotdef h = said_font d file h.0 h.1 h.2 NoNotdef (said_notdef h.0 h.1 h.3)
said_file d file Limit h = said_font d file h.0 h.1 h.2 Limit (said_limit h.0 h.1 h.3.0 h.3.1)
said_file d file Memory h = absurd h

-- ---- what is read

-- the fault that is read is the reason why the file spells no font
pub refuses : (d : Dialect) (file : List ℕ) (fault : ReadFault) → (font_file d file).read ≡ Err fault → ReasonIn d file fault
refuses d file fault e = file_said d file fault ((font_file d file).refuses fault e)

-- a file with a reason to spell nothing is refused for it
pub refuses_again : (d : Dialect) (file : List ℕ) (fault : ReadFault) → ReasonIn d file fault → (font_file d file).read ≡ Err fault
refuses_again d file fault s = (font_file d file).refused fault (said_file d file fault s)
