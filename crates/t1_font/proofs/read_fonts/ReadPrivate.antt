-- The private text of a file that was read is that of a font.
use Rattle.std.proofs.Common.{◌≡◌, ℕ, ◌<◌, Bool, true, false, List, [], ◌∷◌, ◌++◌, length, Option, Some, None, refl, sym, ap, subst, ◌∙◌, append_assoc, arith}
use Rattle.std.proofs.lemmas.List.{append-nil, length-append}
use Rattle.std.specs.List.{AllByRecursion}
use Rattle.t1_grammar.specs.{Grammar.{NoneIn, Stops, first}, Tables.{TableAt}}
use Rattle.t1_bytes.specs.Laws.{AreBytes}
use Rattle.t1_text.specs.{declared.dialect.Spacing.{Spacing}, Words.{is_regular, word, keyword, phrase_of, phrase_after, is_access, passes}, Subrs.{Subr, subr, subrs_end}}
use Rattle.t1_text.specs.{Markers.{subrs_marker, chars_marker}, Glyphs.{glyphs_end}, FontWords.{NoMarker, IsPhrase}}
use Rattle.t1_font.specs.{Pieces.{SubrsPieces, PrivatePieces}, Spelling.{NotBefore, nowhere, later, Start, SpellsTables}}
use Rattle.t1_font.proofs.{read_fonts.ReadBytes.{entries_have}, read_fonts.ReadEntries.{phrase_is, IsRead, subr_of}}
use Rattle.t1_text.proofs.{Moves.{subrs_moves, chars_moves}, Bytes.{parts_bytes}, ReadMarkers.{lacks_none, before_slash, subrs_slash, chars_slash}}

-- ---- what stops a word

-- what stops a word stops it whatever stands behind
pub stops_front : (a b : List ℕ) → Stops is_regular (a ++ b) → Stops is_regular a
stops_front [] b s = tt
stops_front (x ∷ a) b s = s

after_stops : (test : List ℕ → Bool) (access : Bool) (first p front text rest : List ℕ) →
    (phrase_after test access first).Spells p text rest → Stops is_regular (text ++ rest) → Stops is_regular rest
unfolding word
after_stops test false first p front text rest s k = subst (λ (u : List ℕ). Stops is_regular (u ++ rest)) s.0 k
after_stops test true first p front text rest s k =
    let w = s.0.5 in
    subst (λ (u : List ℕ). Stops is_regular (u ++ rest)) w.5.0 w.4.0.0.2

phrase_stops : (test : List ℕ → Bool) (p text rest : List ℕ) → (phrase_of test).Spells p text rest → Stops is_regular rest
unfolding phrase_of word
phrase_stops test p text rest s = after_stops test (is_access s.0) s.0 p [] s.2 rest s.5 s.4.0.0.2

subrs_stops : (d : Spacing) (p text rest : List ℕ) → (subrs_end d).Spells p text rest → Stops is_regular rest
unfolding subrs_end
subrs_stops d p text rest s = phrase_stops (passes false) p s.2 rest s.5

-- the end of the glyphs ends a word
pub glyphs_stops : (p text rest : List ℕ) → glyphs_end.Spells p text rest → Stops is_regular rest
unfolding glyphs_end keyword
glyphs_stops p text rest s = s.5.0.2

closing_is : (d : Spacing) (p text rest : List ℕ) → (subrs_end d).Spells p text rest → AreBytes text → IsPhrase false p
unfolding subrs_end
closing_is d p text rest s h = phrase_is false p s.2 rest s.5 (parts_bytes text s.1 s.2 s.3 h).1

-- ---- where the tables begin

-- the text before a marker and behind it
found_parts : (bytes front own own_text after r : List ℕ) → bytes ≡ own_text ++ after → own_text ≡ front ++ own → own ≡ 47 ∷ r →
    bytes ≡ front ++ (47 ∷ (r ++ after))
found_parts bytes front own own_text after r e f k =
    e ∙ (ap (λ (u : List ℕ). u ++ after) (f ∙ ap (λ (u : List ℕ). front ++ u) k) ∙ append_assoc front (47 ∷ r) after)

-- text, without the markers of tables in front of it
pub record IsStarted (text private rest : List ℕ) : Type 0 where
  pub no_subrs : NoMarker subrs_marker private
  pub no_chars : NoMarker chars_marker private
  pub before : List ℕ
  pub parts : text ≡ private ++ (before ++ rest)

not_before : (text private m : List ℕ) → text ≡ private ++ (47 ∷ m) → NotBefore text (length private) → NoMarker subrs_marker private
not_before text private m e (nowhere lacks) = before_slash subrs_marker subrs_moves private m text []
    (sym e ∙ sym (append-nil text)) (omega (arith, ap length e, length-append private (47 ∷ m))) (lacks_none subrs_marker text lacks)
not_before text private m e (later front declared after s long) =
    let t = s.2 in
    before_slash subrs_marker subrs_moves private m front (t.0 ++ after)
    (sym e ∙ (s.1 ∙ (ap (λ (u : List ℕ). u ++ after) t.1 ∙ append_assoc front t.0 after))) long t.3

-- no marker of tables stands before the one that was read
pub started : (text private : List ℕ) (declared : Option ℕ) (rest : List ℕ) → Start text private declared rest → IsStarted text private rest
started text private None rest s =
    let c = s.0.2 in
    let k = chars_slash c.0 rest c.2 in
    let parts = found_parts text private c.0 s.0.0 rest k.0 s.0.1 c.1 k.1 in
    record {
      no_subrs = not_before text private (k.0 ++ rest) parts s.1;
      no_chars = chars_moves private (k.0 ++ rest) [] (subst (λ (u : List ℕ). NoneIn chars_marker private (u ++ rest)) k.1 c.3);
      before = 47 ∷ k.0;
      parts = parts;
    }
started text private (Some declared) rest s =
    let c = s.2.2 in
    let m = s.3.2 in
    let k = subrs_slash declared m.0 rest m.2 in
    let parts = found_parts text private m.0 s.3.0 rest k.0 s.3.1 m.1 k.1 in
    let chars : text ≡ s.0 ++ (c.0 ++ s.1) = s.2.1 ∙ (ap (λ (u : List ℕ). u ++ s.1) c.1 ∙ append_assoc s.0 c.0 s.1) in
    record {
      no_subrs = subrs_moves private (k.0 ++ rest) [] (subst (λ (u : List ℕ). NoneIn subrs_marker private (u ++ rest)) k.1 m.3);
      no_chars = before_slash chars_marker chars_moves private (k.0 ++ rest) s.0 (c.0 ++ s.1) (sym parts ∙ chars) (omega (arith, s.4)) c.3;
      before = 47 ∷ k.0;
      parts = parts;
    }

-- ---- the tables

-- what is known of the entries of a table, of its closing phrase and of what stands behind it
pub record IsReadTable (declared iv : ℕ) (es : List Subr) (last between : List ℕ) : Type 0 where
  pub entries : AllByRecursion (IsRead (λ i. i < declared) iv) es
  pub closing : IsPhrase false last
  pub apart : Stops is_regular between
  pub bytes : AreBytes between

-- a table of Subrs in bytes is one of a font
table_of : (d : Spacing) (declared iv : ℕ) (es : List Subr) (closing bytes between : List ℕ) →
    TableAt (subr d declared iv) (subrs_end d) es closing bytes between → AreBytes bytes → IsReadTable declared iv es closing between
table_of d declared iv es closing bytes between s h =
    let a = parts_bytes bytes s.0 between s.1 h in
    let b = parts_bytes s.0 s.2.0 s.2.1 s.2.2 a.0 in
    record {
      entries = entries_have (subr d declared iv) (IsRead (λ i. i < declared) iv) (subr_of d declared iv) es s.2.0 (s.2.1 ++ between) s.2.3 b.0;
      closing = closing_is d closing s.2.1 between s.2.4 b.1;
      apart = subrs_stops d closing s.2.1 between s.2.4;
      bytes = a.1;
    }

-- what is known of the middle, of Subrs and of what stands behind the marker of the glyphs
pub record IsReadMiddle (p : PrivatePieces) (o : Option SubrsPieces) (glyphs : List ℕ) : Type 0 where
  pub no_subrs : NoMarker subrs_marker p.private
  pub no_chars : NoMarker chars_marker p.private
  pub private : AreBytes p.private
  pub apart : Stops is_regular p.middle
  pub middle_chars : NoMarker chars_marker p.middle
  pub middle : AreBytes p.middle
  pub after : AreBytes glyphs

-- what is known of the Subrs, or of their absence
abbrev pub IsReadSubrs : PrivatePieces → Option SubrsPieces → Type 0
IsReadSubrs p None = p.middle ≡ []
IsReadSubrs p (Some s) = AllByRecursion (IsRead (λ i. i < s.declared) p.len_iv) s.entries × IsPhrase false s.closing

-- what bytes spell up to the glyphs is that of a font
pub middle_of : (d : Spacing) (text : List ℕ) (p : PrivatePieces) (o : Option SubrsPieces) (glyphs : List ℕ) → SpellsTables d text p o glyphs → AreBytes text →
    IsReadMiddle p o glyphs × IsReadSubrs p o
middle_of d text p None glyphs s h =
    let a = started text p.private None glyphs s.0 in
    let b = parts_bytes text p.private (a.before ++ glyphs) a.parts h in (
      record {
        no_subrs = a.no_subrs;
        no_chars = a.no_chars;
        private = b.0;
        apart = subst (Stops is_regular) (sym s.1) tt;
        middle_chars = subst (NoMarker chars_marker) (sym s.1) tt;
        middle = subst AreBytes (sym s.1) tt;
        after = (parts_bytes (a.before ++ glyphs) a.before glyphs refl b.1).1;
      },
      s.1,
    )
middle_of d text p (Some x) glyphs s h =
    let a = started text p.private (Some x.declared) s.0 s.2 in
    let b = parts_bytes text p.private (a.before ++ s.0) a.parts h in
    let t = table_of d x.declared p.len_iv x.entries x.closing s.0 s.1 s.3 (parts_bytes (a.before ++ s.0) a.before s.0 refl b.1).1 in
    let c = s.4.2 in
    let k = chars_slash c.0 glyphs c.2 in
    let e = found_parts s.1 p.middle c.0 s.4.0 glyphs k.0 s.4.1 c.1 k.1 in
    let d = parts_bytes s.1 p.middle (47 ∷ (k.0 ++ glyphs)) e t.bytes in (
      record {
        no_subrs = a.no_subrs;
        no_chars = a.no_chars;
        private = b.0;
        apart = stops_front p.middle (47 ∷ (k.0 ++ glyphs)) (subst (Stops is_regular) e t.apart);
        middle_chars = chars_moves p.middle (k.0 ++ glyphs) [] (subst (λ (u : List ℕ). NoneIn chars_marker p.middle (u ++ glyphs)) k.1 c.3);
        middle = d.0;
        after = (parts_bytes (47 ∷ (k.0 ++ glyphs)) (47 ∷ k.0) glyphs refl d.1).1;
      },
      (t.entries, t.closing),
    )
