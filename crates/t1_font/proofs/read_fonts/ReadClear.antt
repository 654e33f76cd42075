-- The clear text of a file that was read is that of a font.
use Rattle.std.proofs.Common.{◌≡◌, ℕ, suc, ◌+◌, ◌≤◌, inl, inr, true, false, List, [], ◌∷◌, ◌++◌, length, take, get_or, Option, Some, None, refl, sym, ap, subst, ◌∙◌, append_assoc, arith}
use Rattle.std.proofs.{Common.{true≢false}, lemmas.List.{append-nil, length-append, take_at}, lemmas.Bool.{cases_Bool}}
use Rattle.std.specs.{Prelude.{codes}, List.{AllByRecursion}, Option.{option_map}, Str.{bytes_eq}, Ordering.{nat_cmp}, Cmp.{nat_cmp_total}, FinMap.{nat_cmp-IsAntisymmetric}}
use Rattle.t1_grammar.{specs.Grammar.{NoneIn, Stops, first, first_at, AtFront, unspelled, unread}, proofs.Grammars.{that_read, run_read}}
use Rattle.t1_bytes.specs.{White.{is_white, white, has_bytes, gap}, Eexec.{eexec_marker, blank_comes}, Split.{IsSplit}, Laws.{AreBytes}}
use Rattle.t1_text.specs.{declared.dialect.Spacing.{Spacing}, declared.dialect.Dialect.{Dialect}, Words.{is_regular, keyword, next_name}, Markers.{encoding_marker}}
use Rattle.t1_text.specs.{Encoding.{Opening, Whole, OpensPuts, OpensNames, encoding_start, encoding_word, code_entry, encoding_end, array_end, from_code}, Entries.{last_value, unless_notdef}}
use Rattle.t1_text.specs.{FontWords.{IsWord, NoMarker}, EntryLaws.{keyword_text}}
use Rattle.t1_font.specs.{Pieces.{EncodingText, OneWord, Puts, ClearPieces, PrivatePieces}, FontValue.{notdef}, ReadFont.{encoding_value, shell_of}}
use Rattle.t1_font.specs.{Spelling.{SpellsEncoding, IsClear}, IsFont.{IsClearShell, IsEncoding}}
use Rattle.t1_font.proofs.{MapLemmas.{Some_same, Some_None}, canonical.EntriesWritten.{fixed_read}}
use Rattle.t1_text.proofs.{MapLaws.{get-names_of}, Moves.{first_behind, eexec_moves, encoding_moves}, ReadBack.{eexec_alike}, Bytes.{parts_bytes}}
use Rattle.t1_text.proofs.ReadMarkers.{meet, NoneIn-left, NoneIn-right, encoding_slash, IsMarker, marker_is, is_plain, marker_plain, plain_right}
use Rattle.t1_font.proofs.read_fonts.ReadBytes.{entries_have}
use Rattle.t1_font.proofs.read_fonts.ReadEntries.{word_of, code_entry_of, next_name_of, IsReadPut, IsReadEntry, puts_are, last_has}

-- ---- the Encoding ends with `def`

-- bytes of which the front ends with `def`, before what no word goes on in
pub record IsEnded (bytes rest : List ℕ) : Type 0 where
  pub body : List ℕ
  pub parts : bytes ≡ (body ++ codes "def") ++ rest
  pub apart : Stops is_regular rest

def_ends : (w text front own rest bytes : List ℕ) → (keyword (codes "def")).Spells w own rest → text ≡ front ++ own → bytes ≡ text ++ rest → IsEnded bytes rest
unfolding keyword
def_ends w text front own rest bytes s e b =
    let def : own ≡ codes "def" = keyword_text (codes "def") w own rest s in
    record { body = front; parts = b ∙ ap (λ (u : List ℕ). u ++ rest) (e ∙ ap (λ (u : List ℕ). front ++ u) def); apart = s.0.2 }

-- the word of an opening
abbrev word_in : Opening → Option (List ℕ)
word_in (Whole w) = Some w
word_in OpensPuts = None
word_in OpensNames = None

-- a word is its own Encoding
pub word_start : (d : Dialect) (w bytes rest : List ℕ) → AtFront (encoding_start d) bytes (Whole w, rest) →
    (text : List ℕ) × (bytes ≡ text ++ rest) × (encoding_word d).Spells w text rest
unfolding encoding_start
word_start d w bytes rest a = elim a.2 [
  | inl t ↦
      let text : a.0 ≡ t.1 = t.3 ∙ (ap (λ (u : List ℕ). t.1 ++ u) t.5.0 ∙ append-nil t.1) in
      let spelled : (encoding_word d).Spells t.0 t.1 rest = subst (λ (u : List ℕ). (encoding_word d).Spells t.0 t.1 (u ++ rest)) t.5.0 t.4 in
      (t.1, a.1 ∙ ap (λ (u : List ℕ). u ++ rest) text, subst (λ (v : List ℕ). (encoding_word d).Spells v t.1 rest) (Some_same (ap word_in t.5.1)) spelled)
  | inr t ↦ elim t.0 [
    | inl u ↦ Some_None (sym (ap word_in u.5.5.1))
    | inr u ↦ Some_None (sym (ap word_in u.0.5.1))
  ]
]

-- an Encoding that is a word ends with `def`
word_ends : (d : Dialect) (w text rest bytes : List ℕ) → (encoding_word d).Spells w text rest → bytes ≡ text ++ rest → IsEnded bytes rest
unfolding encoding_word
word_ends d w text rest bytes s b =
    let g = s.5.5 in
    let r = g.5 in
    let k = r.5 in
    let none : k.2 ≡ [] = k.5.0 in
    let own : (keyword (codes "def")).Spells k.0 k.1 rest = subst (λ (u : List ℕ). (keyword (codes "def")).Spells k.0 k.1 (u ++ rest)) none k.4 in
    let front : List ℕ = s.1 ++ (s.5.1 ++ (g.1 ++ r.1)) in
    let last : k.1 ++ [] ≡ k.1 = append-nil k.1 in
    let parts : text ≡ s.1 ++ (s.5.1 ++ (g.1 ++ (r.1 ++ k.1))) =
    s.3 ∙ (λ i. s.1 ++ (s.5.3 ∙ (λ j. s.5.1 ++ (g.3 ∙ (λ l. g.1 ++ (r.3 ∙ (λ n. r.1 ++ (k.3 ∙ ((λ m. k.1 ++ none m) ∙ last)) n)) l)) j)) i) in
    let flat : s.1 ++ (s.5.1 ++ (g.1 ++ (r.1 ++ k.1))) ≡ front ++ k.1 = simp append_assoc in
    def_ends k.0 text front k.1 rest bytes own (parts ∙ flat) b

close_ends : (d : Spacing) (closing text rest : List ℕ) (front bytes : List ℕ) →
    (encoding_end d).Spells closing text rest → bytes ≡ (front ++ text) ++ rest → IsEnded bytes rest
unfolding encoding_end
close_ends d closing text rest front bytes s b =
    let parts : front ++ text ≡ front ++ (s.1 ++ (s.5.1 ++ s.5.2)) = λ i. front ++ (s.3 ∙ (λ j. s.1 ++ s.5.3 j)) i in
    let flat : front ++ (s.1 ++ (s.5.1 ++ s.5.2)) ≡ (front ++ (s.1 ++ s.5.1)) ++ s.5.2 = simp append_assoc in
    def_ends closing (front ++ text) (front ++ (s.1 ++ s.5.1)) s.5.2 rest bytes s.5.5 (parts ∙ flat) b

array_ends : (d : Spacing) (closing text rest : List ℕ) (front bytes : List ℕ) →
    (array_end d).Spells closing text rest → bytes ≡ (front ++ text) ++ rest → IsEnded bytes rest
unfolding array_end
array_ends d closing text rest front bytes s b =
    let parts : front ++ text ≡ front ++ (s.1 ++ (s.5.1 ++ s.5.2)) = λ i. front ++ (s.3 ∙ (λ j. s.1 ++ s.5.3 j)) i in
    let flat : front ++ (s.1 ++ (s.5.1 ++ s.5.2)) ≡ (front ++ (s.1 ++ s.5.1)) ++ s.5.2 = simp append_assoc in
    close_ends d closing s.5.2 rest (front ++ (s.1 ++ s.5.1)) bytes s.5.5 (b ∙ ap (λ (u : List ℕ). u ++ rest) (parts ∙ flat))

-- what opens the entries, the entries, their close and a rest
table_parts : (opening entries closing rest bytes behind : List ℕ) → bytes ≡ opening ++ behind → behind ≡ (entries ++ closing) ++ rest →
    bytes ≡ ((opening ++ entries) ++ closing) ++ rest
table_parts opening entries closing rest bytes behind b e = b ∙ (ap (λ (u : List ℕ). opening ++ u) e ∙ simp append_assoc)

-- an Encoding ends with `def`
pub encoding_ends : (d : Dialect) (e : EncodingText) (bytes rest : List ℕ) → SpellsEncoding d e bytes rest → IsEnded bytes rest
encoding_ends d (OneWord w) bytes rest s = let a = word_start d w bytes rest s in word_ends d w a.0 rest bytes a.2 a.1
encoding_ends d (Puts puts) bytes rest (inl s) =
    let t = s.5.2 in
    close_ends d.encoding s.2 t.1 rest (s.4.0 ++ t.0) bytes t.4 (table_parts s.4.0 t.0 t.1 rest bytes s.1 s.4.1 (s.5.1 ∙ ap (λ (u : List ℕ). u ++ rest) t.2))
encoding_ends d (Puts puts) bytes rest (inr s) =
    let t = s.5.2.1 in
    array_ends d.encoding s.2 t.1 rest (s.4.0 ++ t.0) bytes t.4 (table_parts s.4.0 t.0 t.1 rest bytes s.1 s.4.1 (s.5.1 ∙ ap (λ (u : List ℕ). u ++ rest) t.2))

-- ---- and is one of a font

word_value : (d : Dialect) (w text rest : List ℕ) → (encoding_word d).Spells w text rest → AreBytes text → IsWord 32 w
unfolding encoding_word
word_value d w text rest s h =
    let a = parts_bytes text s.1 s.2 s.3 h in
    let b = parts_bytes s.2 s.5.1 s.5.2 s.5.3 a.1 in
    subst (IsWord 32) s.5.5.5.5.5.1 (word_of s.5.0 s.5.1 _ s.5.4 b.0)

named : (o : Option (List ℕ)) (n : List ℕ) → unless_notdef o ≡ Some n → (o ≡ Some n) × (bytes_eq notdef n ≡ false)
named None n e = Some_None (sym e)
named (Some m) n e = elim (cases_Bool (bytes_eq notdef m)) [
  | inl t ↦ let k : ◌≡◌ {A = Option (List ℕ)} None (Some n) = rw t at e in Some_None (sym k)
  | inr t ↦ let k : ◌≡◌ {A = Option (List ℕ)} (Some m) (Some n) = rw t at e in (k, subst (λ (u : List ℕ). bytes_eq notdef u ≡ false) (Some_same k) t)
]

puts_value : (puts : List (ℕ × List ℕ)) → AllByRecursion IsReadPut puts → IsEncoding (encoding_value (Puts puts))
puts_value puts all = λ c n e.
    let found = named (last_value nat_cmp c puts) n (sym (get-names_of nat_cmp_total nat_cmp-IsAntisymmetric puts c) ∙ e) in
    let here : IsReadPut (c, n) = last_has nat_cmp nat_cmp-IsAntisymmetric (λ c n. IsReadPut (c, n)) puts all c n found.0 in
    record { code = here.code; name = here.name; put = found.1 }

-- the bytes of entries, behind what opens them
entries_bytes : (opening behind text entries closing rest bytes : List ℕ) → bytes ≡ opening ++ behind →
    behind ≡ text ++ rest → text ≡ entries ++ closing → AreBytes bytes → AreBytes entries
entries_bytes opening behind text entries closing rest bytes b e t h =
    (parts_bytes text entries closing t (parts_bytes behind text rest e (parts_bytes bytes opening behind b h).1).0).0

-- up to 256 names at the codes of their places
array_puts : (c : ℕ) (names : List (List ℕ)) → AllByRecursion (IsWord 127) names → c + length names ≤ 256 → AllByRecursion IsReadPut (from_code c names)
array_puts c [] all few = tt
array_puts c (n ∷ names) all few = (record { code = omega (arith, few); name = all.0 }, array_puts (suc c) names all.1 (omega (arith, few)))

-- an Encoding that is spelled by bytes is that of a font
pub encoding_of : (d : Dialect) (e : EncodingText) (bytes rest : List ℕ) → SpellsEncoding d e bytes rest → AreBytes bytes → IsEncoding (encoding_value e)
encoding_of d (OneWord w) bytes rest s h = let a = word_start d w bytes rest s in word_value d w a.0 rest a.2 (parts_bytes bytes a.0 rest a.1 h).0
encoding_of d (Puts puts) bytes rest (inl s) h =
    let t = s.5.2 in
    let all : AllByRecursion IsReadEntry s.0 =
    entries_have (code_entry d) IsReadEntry (code_entry_of d) s.0 t.0 (t.1 ++ rest) t.3 (entries_bytes s.4.0 s.1 s.5.0 t.0 t.1 rest bytes s.4.1 s.5.1 t.2 h) in
    puts_value puts (subst (AllByRecursion IsReadPut) (sym s.3) (puts_are [] s.0 tt all))
encoding_of d (Puts puts) bytes rest (inr s) h =
    let t = s.5.2.1 in
    let all : AllByRecursion (IsWord 127) s.0 = entries_have (next_name d.encoding) (IsWord 127) (next_name_of d.encoding) s.0 t.0
    (t.1 ++ rest) t.3 (entries_bytes s.4.0 s.1 s.5.0 t.0 t.1 rest bytes s.4.1 s.5.1 t.2 h) in
    puts_value puts (subst (AllByRecursion IsReadPut) (sym s.3) (array_puts 0 s.0 all (omega (arith, s.5.2.0))))

-- ---- the clear text ends with the first marker

gap_read : (between rest : List ℕ) → AllByRecursion (λ b. is_white b ≡ true) between → has_bytes between ≡ true → Stops is_white rest →
    gap.read (between ++ rest) ≡ Some (between, rest)
unfolding gap
gap_read between rest w h s = that_read has_bytes white (between ++ rest) between rest (run_read is_white between rest w s) h

marker_read : (own after v : List ℕ) → IsMarker own after → blank_comes v ≡ true → eexec_marker.read (own ++ v) ≡ Some (own, v)
unfolding eexec_marker
marker_read own after v m b =
    let whole : own ++ v ≡ codes "currentfile" ++ (m.between ++ (codes "eexec" ++ v)) =
    ap (λ (u : List ℕ). u ++ v) m.parts ∙ (λ i. codes "currentfile" ++ append_assoc m.between (codes "eexec") v i) in
    rw (
      whole,
      fixed_read (codes "currentfile") (m.between ++ (codes "eexec" ++ v)),
      gap_read m.between (codes "eexec" ++ v) m.white m.some refl,
      fixed_read (codes "eexec") v,
      b,
    ) (ap (λ (u : List ℕ). Some (u, v)) (sym m.parts))

blank_moves : (z core u v : List ℕ) → 11 ≤ length core → blank_comes u ≡ true → blank_comes v ≡ true → NoneIn eexec_marker z (core ++ (codes "eexec" ++ u)) →
    NoneIn eexec_marker z (core ++ (codes "eexec" ++ v))
blank_moves [] core u v long h k none = tt
blank_moves (b ∷ z) core u v long h k none =
    let y : List ℕ = b ∷ (z ++ core) in
    let before : eexec_marker.read (y ++ (codes "eexec" ++ u)) ≡ None =
    ap (λ (t : List ℕ). eexec_marker.read (b ∷ t)) (append_assoc z core (codes "eexec" ++ u))
    ∙ unread eexec_marker (b ∷ (z ++ (core ++ (codes "eexec" ++ u)))) none.0 in
    let moved : eexec_marker.read (y ++ (codes "eexec" ++ v)) ≡ None = eexec_alike y u v (omega (arith, long, length-append z core)) h k before in (
      unspelled eexec_marker (b ∷ (z ++ (core ++ (codes "eexec" ++ v))))
          (ap (λ (t : List ℕ). eexec_marker.read (b ∷ t)) (sym (append_assoc z core (codes "eexec" ++ v))) ∙ moved),
      blank_moves z core u v long h k none.1,
    )

-- the marker's text, up to its last word
core_parts : (own after u : List ℕ) (m : IsMarker own after) → own ++ u ≡ (codes "currentfile" ++ m.between) ++ (codes "eexec" ++ u)
core_parts own after u m = ap (λ (t : List ℕ). t ++ u) m.parts ∙ (λ i. codes "currentfile" ++ append_assoc m.between (codes "eexec") u i)

line_moves : (z own after : List ℕ) → IsMarker own after → NoneIn eexec_marker z (own ++ after) → NoneIn eexec_marker z (own ++ 10 ∷ [])
line_moves z own after m none =
    let core : List ℕ = codes "currentfile" ++ m.between in
    subst (NoneIn eexec_marker z) (sym (core_parts own after (10 ∷ []) m))
    (blank_moves z core after (10 ∷ []) (omega arith) m.blank refl (subst (NoneIn eexec_marker z) (core_parts own after after m) none))

-- `def` doesn't end within the marker
not_def : (s : List ℕ) (y : ℕ) (z : List ℕ) → codes "def" ≡ s ++ (y ∷ z) → y ≡ 99 → ⊥
not_def [] y z e c = let k : 100 ≡ y = ap (λ (u : List ℕ). get_or u 0 0) e in absurd (omega (arith, k, c))
not_def (a ∷ []) y z e c = let k : 101 ≡ y = ap (λ (u : List ℕ). get_or u 1 0) e in absurd (omega (arith, k, c))
not_def (a ∷ b ∷ []) y z e c = let k : 102 ≡ y = ap (λ (u : List ℕ). get_or u 2 0) e in absurd (omega (arith, k, c))
not_def (a ∷ b ∷ d ∷ s) y z e c = absurd (omega (arith, ap length e, length-append s (y ∷ z)))

-- the marker of eexec begins nowhere within `def`
not_within : (x front own after tail : List ℕ) (y : ℕ) (z : List ℕ) → x ++ codes "def" ≡ front ++ (y ∷ z) → own ≡ y ∷ (z ++ tail) → IsMarker own after → ⊥
not_within x front own after tail y z e o m =
    let first : y ≡ 99 = ap (λ (u : List ℕ). get_or u 0 0) (sym o ∙ m.parts) in
    elim (meet x (codes "def") front (y ∷ z) e) [
      | inl s ↦ not_def s.0 y z s.2 first
      | inr s ↦
          let whole : own ≡ (s.0 ∷ s.1) ++ (codes "def" ++ tail) = o ∙ (ap (λ (u : List ℕ). u ++ tail) s.3 ∙ append_assoc (s.0 ∷ s.1) (codes "def") tail) in
          let plain = plain_right (s.0 ∷ s.1) (codes "def" ++ tail)
          (subst (λ (u : List ℕ). AllByRecursion (λ b. is_plain b ≡ true) u) whole (marker_plain own after m)) in
          true≢false (sym plain.0)
    ]

-- the marker at the end of a clear text is the first of its tail
pub tail_through : (x tail front own after : List ℕ) → (x ++ codes "def") ++ tail ≡ front ++ own → IsMarker own after →
    NoneIn eexec_marker front (own ++ after) → option_map (λ y. y.1) ((first eexec_marker).read (tail ++ 10 ∷ [])) ≡ Some (10 ∷ [])
tail_through x tail front own after e m none = elim (meet (x ++ codes "def") tail front own e) [
  | inl s ↦
      let inner : NoneIn eexec_marker s.0 (own ++ after) =
      NoneIn-right eexec_marker (x ++ codes "def") s.0 (own ++ after) (subst (λ (u : List ℕ). NoneIn eexec_marker u (own ++ after)) s.1 none) in
      let found : first_at eexec_marker (s.0 ++ (own ++ 10 ∷ [])) ≡ Some ((s.0, own), 10 ∷ []) =
      first_behind eexec_marker s.0 (own ++ 10 ∷ []) own (10 ∷ []) (line_moves s.0 own after m inner) (marker_read own after (10 ∷ []) m refl) in
      let whole : tail ++ 10 ∷ [] ≡ s.0 ++ (own ++ 10 ∷ []) = ap (λ (u : List ℕ). u ++ 10 ∷ []) s.2 ∙ append_assoc s.0 own (10 ∷ []) in
      ap (λ (u : List ℕ). option_map (λ y. y.1) (first_at eexec_marker u)) whole ∙ ap (option_map (λ y. y.1)) found
  | inr s ↦ absurd (not_within x front own after tail s.0 s.1 s.2 s.3 m)
]

-- no marker of eexec stands in the head
pub head_before : (head r front own after : List ℕ) → head ++ (47 ∷ r) ≡ front ++ own →
    IsMarker own after → NoneIn eexec_marker front (own ++ after) → NoMarker eexec_marker head
head_before head r front own after e m none = elim (meet head (47 ∷ r) front own e) [
  | inl s ↦
      let inner : NoneIn eexec_marker head (s.0 ++ (own ++ after)) =
      NoneIn-left eexec_marker head s.0 (own ++ after) (subst (λ (u : List ℕ). NoneIn eexec_marker u (own ++ after)) s.1 none) in
      let slash : s.0 ++ (own ++ after) ≡ 47 ∷ (r ++ after) = sym (append_assoc s.0 own after) ∙ ap (λ (u : List ℕ). u ++ after) (sym s.2) in
      eexec_moves head (r ++ after) [] (subst (NoneIn eexec_marker head) slash inner)
  | inr s ↦ let plain = plain_right (s.0 ∷ s.1) (47 ∷ r) (subst (λ (u : List ℕ). AllByRecursion (λ b. is_plain b ≡ true) u) s.3 (marker_plain own after m)) in
      absurd (true≢false (sym plain.0))
]

-- ---- the whole

-- what is known of the clear text
pub record IsReadClear (c : ClearPieces) (p : PrivatePieces) : Type 0 where
  pub shell : IsClearShell (shell_of c p)
  pub head : AreBytes c.head
  pub tail : AreBytes c.clear_tail
  pub encoding : IsEncoding (encoding_value c.encoding)

-- the clear text that bytes spell is that of a font
pub clear_of : (d : Dialect) (flat : List ℕ) (at : ℕ) (clear cipher : List ℕ) (c : ClearPieces) (p : PrivatePieces) →
    IsSplit flat at cipher → clear ≡ take at flat → IsClear d clear c → AreBytes clear → IsReadClear c p
clear_of d flat at clear cipher c p cut clear_is s h =
    let f = s.marker.2 in
    let slash = encoding_slash f.0 s.after f.2 in
    let text = parts_bytes clear s.marker.0 s.after s.marker.1 h in
    let head = parts_bytes s.marker.0 c.head f.0 f.1 text.0 in
    let ends = encoding_ends d c.encoding s.after c.clear_tail s.encoding in
    let front : List ℕ = cut.marker.0 in
    let after : List ℕ = cut.after in
    let e = cut.ends in
    let marker = marker_is cut.marker.1 e.0 after e.2 in
    let through : clear ≡ front ++ e.0 = clear_is ∙ (ap (take at) cut.parts ∙ (take_at cut.clear after at (sym cut.place) ∙ e.1)) in
    let behind : clear ≡ c.head ++ (47 ∷ (slash.0 ++ s.after)) =
    s.marker.1 ∙ (ap (λ (u : List ℕ). u ++ s.after) (f.1 ∙ ap (λ (u : List ℕ). c.head ++ u) slash.1) ∙ append_assoc c.head (47 ∷ slash.0) s.after) in
    let last : clear ≡ ((s.marker.0 ++ ends.body) ++ codes "def") ++ c.clear_tail =
    s.marker.1 ∙ (ap (λ (u : List ℕ). s.marker.0 ++ u) ends.parts ∙ grouped s.marker.0 ends.body (codes "def") c.clear_tail) in
    record {
      shell = record {
        head_encoding = encoding_moves c.head (slash.0 ++ s.after) [] (subst (λ (u : List ℕ). NoneIn encoding_marker c.head (u ++ s.after)) slash.1 f.3);
        head_eexec = head_before c.head (slash.0 ++ s.after) front e.0 after (sym behind ∙ through) marker e.3;
        tail_apart = ends.apart;
        tail_ends = tail_through (s.marker.0 ++ ends.body) c.clear_tail front e.0 after (sym last ∙ through) marker e.3;
      };
      head = head.0;
      tail = (parts_bytes s.after (ends.body ++ codes "def") c.clear_tail ends.parts text.1).1;
      encoding = encoding_of d c.encoding s.after c.clear_tail s.encoding text.1;
    }
  where
    grouped : (a b d t : List ℕ) → a ++ ((b ++ d) ++ t) ≡ ((a ++ b) ++ d) ++ t
    grouped a b d t = simp append_assoc
