-- The private text is read from its canonical text, whatever stands behind it.
use Rattle.std.proofs.Common.{◌≡◌, ℕ, inl, inr, ◌⊎◌, ◌≤◌, ◌<◌, ◌^◌, true, false, ltb, List, [], ◌∷◌, ◌++◌, length, Option, Some, None, Result, Ok, refl, sym, ap, ◌∙◌, append_assoc, arith}
use Rattle.std.proofs.{lemmas.List.{length-append, append-nil}, lemmas.Option.{none-some, same_Some}, lemmas.Bool.{lt-ltb, le-ltb}}
use Rattle.std.specs.{Prelude.{codes}, Fmt.{decimal as digits}, List.{AllByRecursion}, Option.{option_map}}
use Rattle.t1_grammar.specs.{Grammar.{Grammar, Stops, first, first_at, Lacks, first_here}, Tables.{table_at}, Places.{prepend, occurs, absent_lacks, lacks_absent}}
use Rattle.t1_text.specs.{declared.dialect.Spacing.TheVariants.{White}, Words.{is_regular}, Entry.{Entry}, Subrs.{subr, subrs_end}, Markers.{subrs_marker, chars_marker, closefile, white_comes}}
use Rattle.t1_text.specs.{Glyphs.{Glyph}, FontWords.{IsWord, IsPhrase, NoMarker}}
use Rattle.t1_font.specs.{declared.fault.ReadFault.{ReadFault}, Pieces.{SubrsPieces, PrivatePieces, private_pieces, tables_from, before_place, glyphs_from, tail_after, iv_of}}
use Rattle.t1_font.specs.Writing.{entries_text, index_text, subrs_text, subrs_part, name_text, glyphs_text, glyphs_part, private_written}
use Rattle.t1_text.proofs.{Written.{gap_one, keyword_read, decimal_read, black_digits}, FirstPlace.{one_place}, Borders.{fixed_strip}}
use Rattle.t1_text.proofs.Moves.{Within, fixed_within, first_grows, past_none, first_behind, subrs_moves, chars_moves}
use Rattle.t1_font.proofs.canonical.EntriesWritten.{IsEntry, subrs_read, glyphs_read, fixed_read}

-- a table of Subrs that can be written
pub record ArePieces (iv : ℕ) (s : SubrsPieces) : Type 0 where
  pub declared : s.declared ≤ 65535
  pub entries : AllByRecursion (IsEntry (λ i. i < s.declared) iv) s.entries
  pub closing : IsPhrase false s.closing

-- a table of Subrs that can be written, or none and nothing before the glyphs
abbrev pub AreOptional : ℕ → List ℕ → Option SubrsPieces → Type 0
AreOptional iv middle None = middle ≡ []
AreOptional iv middle (Some s) = ArePieces iv s

-- a private text that can be written
pub record IsWritable (p : PrivatePieces) : Type 0 where
  pub iv : (iv_of p.private).read ≡ Ok p.len_iv
  pub no_subrs : NoMarker subrs_marker p.private
  pub no_chars : NoMarker chars_marker p.private
  pub middle_apart : Stops is_regular p.middle
  pub middle_chars : NoMarker chars_marker p.middle
  pub middle_subrs : Lacks subrs_marker p.middle
  pub tail_apart : Stops is_regular p.tail
  pub tail_subrs : Lacks subrs_marker p.tail
  pub tail_ends : option_map (λ x. x.1) ((first closefile).read p.tail) ≡ Some []
  pub subrs : AreOptional p.len_iv p.middle p.subrs
  pub glyphs : AllByRecursion (IsEntry (IsWord 127) p.len_iv) p.glyphs
  pub few : length p.glyphs ≤ 65535

-- ---- the markers

-- the marker of Subrs is read from its text
pub subrs_marker_read : (declared : ℕ) (rest : List ℕ) → declared < 10 ^ 9 → white_comes rest ≡ true →
    subrs_marker.read (codes "/Subrs " ++ (digits declared ++ (codes " array" ++ rest))) ≡ Some (declared, rest)
unfolding subrs_marker
subrs_marker_read declared rest few w =
    let t2 : List ℕ = codes "array" ++ rest in
    let t1 : List ℕ = digits declared ++ (32 ∷ t2) in
    rw (
      fixed_read (codes "/Subrs") (32 ∷ t1),
      gap_one t1 (black_digits declared (32 ∷ t2) few),
      decimal_read declared (32 ∷ t2) few refl,
      gap_one t2 refl,
      keyword_read (codes "array") rest (refl, (refl, (refl, (refl, (refl, tt))))) (white_stops rest w),
      w,
    ) refl
  where
    white_stops : (rest : List ℕ) → white_comes rest ≡ true → Stops is_regular rest
    white_stops [] w = tt
    white_stops (b ∷ bs) w = rw w refl

-- the marker of CharStrings is read from its text
pub chars_marker_read : (n : ℕ) (rest : List ℕ) → n < 10 ^ 9 →
    chars_marker.read (codes "/CharStrings " ++ (digits n ++ (codes " dict dup begin" ++ (10 ∷ rest)))) ≡ Some (tt, 10 ∷ rest)
unfolding chars_marker
chars_marker_read n rest few =
    let t4 : List ℕ = codes "begin" ++ (10 ∷ rest) in
    let t3 : List ℕ = codes "dup" ++ (32 ∷ t4) in
    let t2 : List ℕ = codes "dict" ++ (32 ∷ t3) in
    let t1 : List ℕ = digits n ++ (32 ∷ t2) in
    rw (
      fixed_read (codes "/CharStrings") (32 ∷ t1),
      gap_one t1 (black_digits n (32 ∷ t2) few),
      decimal_read n (32 ∷ t2) few refl,
      gap_one t2 refl,
      keyword_read (codes "dict") (32 ∷ t3) (refl, (refl, (refl, (refl, tt)))) refl,
      gap_one t3 refl,
      keyword_read (codes "dup") (32 ∷ t4) (refl, (refl, (refl, tt))) refl,
      gap_one t4 refl,
      keyword_read (codes "begin") (10 ∷ rest) (refl, (refl, (refl, (refl, (refl, tt))))) refl,
    ) refl

-- ---- the end

closefile_grows : (junk : List ℕ) → Within [] (10 ∷ junk) closefile
unfolding closefile
closefile_grows junk = fixed_within [] (10 ∷ junk) (codes "closefile") (refl, (refl, (refl, (refl, (refl, (refl, (refl, (refl, (refl, tt)))))))))
    (refl, (refl, (refl, (refl, (refl, (refl, (refl, (refl, (refl, tt)))))))))

closefile_text : (a own rest : List ℕ) → closefile.Spells a own rest → own ≡ a
unfolding closefile
closefile_text a own rest s = s.0.0

-- what is found, with nothing behind it, is the whole text
pub whole_found : (tail : List ℕ) → option_map (λ x. x.1) ((first closefile).read tail) ≡ Some [] →
    (x : (List ℕ × List ℕ) × List ℕ) × ((first closefile).read tail ≡ Some x) × (x.1 ≡ []) × (x.0.0 ++ x.0.1 ≡ tail)
whole_found tail h = by_found (first_at closefile tail) refl h
  where
    by_found : (o : Option ((List ℕ × List ℕ) × List ℕ)) → first_at closefile tail ≡ o → option_map (λ x. x.1) o ≡ Some [] →
        (x : (List ℕ × List ℕ) × List ℕ) × (first_at closefile tail ≡ Some x) × (x.1 ≡ []) × (x.0.0 ++ x.0.1 ≡ tail)
    by_found None e k = absurd (none-some [] k)
    by_found (Some x) e k =
        let s = (first closefile).takes tail x e in
        let nothing : x.1 ≡ [] = same_Some x.1 [] k in (
          x,
          e,
          nothing,
          sym (s.1 ∙ ap (λ (u : List ℕ). s.0 ++ u) nothing ∙ append-nil s.0
              ∙ s.2.1 ∙ ap (λ (u : List ℕ). x.0.0 ++ u) (closefile_text x.0.1 s.2.0 x.1 s.2.2)),
        )

-- the tail is read through its `closefile`
pub tail_read : (middle tail junk : List ℕ) → Lacks subrs_marker middle → Lacks subrs_marker tail →
    option_map (λ x. x.1) ((first closefile).read tail) ≡ Some [] → (tail_after middle (tail ++ (10 ∷ junk))).read ≡ Ok tail
unfolding tail_after
tail_read middle tail junk m t e =
    let f = whole_found tail e in
    let more : first_at closefile (tail ++ (10 ∷ junk)) ≡ Some (f.0.0, f.0.1 ++ (10 ∷ junk)) =
    first_grows closefile (10 ∷ junk) (closefile_grows junk) tail f.0 f.1 in
    rw (more, lacks_absent subrs_marker middle m, f.3, lacks_absent subrs_marker tail t) refl

-- the glyphs and the tail are read from their texts
pub glyphs_from_read : (text private : List ℕ) (subrs : Option SubrsPieces) (middle : List ℕ) (iv : ℕ) (es : List Glyph) (tail junk : List ℕ) →
    AllByRecursion (IsEntry (IsWord 127) iv) es → Stops is_regular tail → Lacks subrs_marker middle → Lacks subrs_marker tail
    → option_map (λ x. x.1) ((first closefile).read tail) ≡ Some []
    → (glyphs_from (length text) private subrs middle iv (glyphs_text es ++ (tail ++ (10 ∷ junk)))).read ≡ Ok
    (record { private = private; len_iv = iv; subrs = subrs; middle = middle; glyphs = es; tail = tail })
unfolding glyphs_from
glyphs_from_read text private subrs middle iv es tail junk all apart m t e =
    rw (glyphs_read iv es (tail ++ (10 ∷ junk)) all (stops_then tail junk apart), tail_read middle tail junk m t e) refl
  where
    stops_then : (tail junk : List ℕ) → Stops is_regular tail → Stops is_regular (tail ++ (10 ∷ junk))
    stops_then [] junk s = refl
    stops_then (b ∷ tail) junk s = s

-- ---- the whole

-- a marker behind front stands no earlier than its end
not_before : (front : List ℕ) (o : Option ((List ℕ × ℕ) × List ℕ)) → before_place (length front) (prepend front o) ≡ None
not_before front None = refl
not_before front (Some x) =
    let late : ltb (length (front ++ x.0.0)) (length front) ≡ false =
    le-ltb (length (front ++ x.0.0)) (length front) (omega (arith, length-append front x.0.0)) in
    rw late refl

begins_line : {K : Type 0} (key_text : K → List ℕ) (es : List (Entry K)) (closing : List ℕ) → (r : List ℕ) × (entries_text key_text es closing ≡ 10 ∷ r)
begins_line key_text [] closing = (_, refl)
begins_line key_text (e ∷ es) closing = (_, refl)

-- the marker is read from the text of the table of glyphs
pub chars_part_read : (es : List Glyph) (rest : List ℕ) → length es ≤ 65535 → chars_marker.read (glyphs_part es ++ rest) ≡ Some (tt, glyphs_text es ++ rest)
chars_part_read es rest few =
    let line = begins_line name_text es (codes "end") in
    let regrouped : glyphs_part es ++ rest ≡ codes "/CharStrings " ++ (digits (length es) ++ (codes " dict dup begin" ++ (glyphs_text es ++ rest))) =
    simp append_assoc in
    let shown : glyphs_text es ++ rest ≡ 10 ∷ (line.0 ++ rest) = ap (λ (u : List ℕ). u ++ rest) line.1 in
    ap chars_marker.read (regrouped ∙ ap (λ (u : List ℕ). codes "/CharStrings " ++ (digits (length es) ++ (codes " dict dup begin" ++ u))) shown)
    ∙ (chars_marker_read (length es) (line.0 ++ rest) (omega (arith, few)) ∙ ap (λ (u : List ℕ). Some (tt, u)) (sym shown))

nothing_found : occurs subrs_marker [] ≡ false
unfolding first_at subrs_marker
nothing_found = refl

nothing_subrs : Lacks subrs_marker []
nothing_subrs = absent_lacks subrs_marker [] nothing_found

-- what is read where the two markers are known
pieces_read : (text : List ℕ) (chars : (List ℕ × Unit {0}) × List ℕ) (marker : Option ((List ℕ × ℕ) × List ℕ)) (o : Result PrivatePieces ReadFault) →
    first_at chars_marker text ≡ Some chars → first_at subrs_marker text ≡ marker
    → (tables_from White (length text) chars (before_place (length chars.0.0) marker)).read ≡ o → (private_pieces White text).read ≡ o
unfolding private_pieces
pieces_read text chars marker o e k t = rw (e, k) t

-- without Subrs
no_tables_again : (p : PrivatePieces) (text junk : List ℕ) → IsWritable p →
    (tables_from White (length text) ((p.private, tt), glyphs_text p.glyphs ++ (p.tail ++ (10 ∷ junk))) None).read ≡ Ok
    (record { private = p.private; len_iv = p.len_iv; subrs = None; middle = []; glyphs = p.glyphs; tail = p.tail })
unfolding tables_from
no_tables_again p text junk h =
    rw (h.iv, glyphs_from_read text p.private None [] p.len_iv p.glyphs p.tail junk h.glyphs h.tail_apart nothing_subrs h.tail_subrs h.tail_ends) refl

no_subrs_again : (p : PrivatePieces) (junk : List ℕ) → IsWritable p → p.subrs ≡ None →
    (private_pieces White (p.private ++ (glyphs_part p.glyphs ++ (p.tail ++ (10 ∷ junk))))).read ≡ Ok
    (record { private = p.private; len_iv = p.len_iv; subrs = None; middle = []; glyphs = p.glyphs; tail = p.tail })
no_subrs_again p junk h e =
    let t : List ℕ = p.tail ++ (10 ∷ junk) in
    let g : List ℕ = glyphs_part p.glyphs ++ t in
    let text : List ℕ = p.private ++ g in
    let place : (List ℕ × Unit {0}) × List ℕ = ((p.private, tt), glyphs_text p.glyphs ++ t) in
    let chars : first_at chars_marker text ≡ Some place =
    first_behind chars_marker p.private g tt _ (chars_moves p.private [] _ h.no_chars) (chars_part_read p.glyphs t h.few) in
    let subrs : before_place (length p.private) (first_at subrs_marker text) ≡ None =
    ap (before_place (length p.private)) (past_none subrs_marker p.private g (subrs_moves p.private [] _ h.no_subrs))
    ∙ not_before p.private (first_at subrs_marker g) in
    pieces_read text place (first_at subrs_marker text) _ chars refl
    (ap (λ (o : Option ((List ℕ × ℕ) × List ℕ)). (tables_from White (length text) place o).read) subrs ∙ no_tables_again p text junk h)

-- a marker that stands somewhere is found
pub is_found : {A : Type 0} (g : Grammar A) (front after : List ℕ) (a : A) (rest : List ℕ) → g.read after ≡ Some (a, rest) →
    (x : (List ℕ × A) × List ℕ) × (first_at g (front ++ after) ≡ Some x)
is_found g [] after a rest e = (_, first_here g after a rest e)
is_found g (b ∷ front) after a rest e = elim (read_or_not (g.read (b ∷ (front ++ after)))) [
  | inl n ↦ let f = is_found g front after a rest e in (_, one_place g b (front ++ after) n ∙ ap (prepend (b ∷ [])) f.1)
  | inr s ↦ (_, first_here g (b ∷ (front ++ after)) s.0.0 s.0.1 s.1)
]
  where
    read_or_not : {A : Type 0} (o : Option (A × List ℕ)) → (o ≡ None) ⊎ ((x : A × List ℕ) × (o ≡ Some x))
    read_or_not None = inl refl
    read_or_not (Some x) = inr (x, refl)

-- the marker is read from the text of the table of Subrs
pub subrs_part_read : (s : SubrsPieces) (rest : List ℕ) → s.declared ≤ 65535 →
    subrs_marker.read (subrs_part (Some s) ++ rest) ≡ Some (s.declared, subrs_text s.entries s.closing ++ rest)
subrs_part_read s rest few =
    let line = begins_line index_text s.entries s.closing in
    let regrouped : subrs_part (Some s) ++ rest ≡ codes "/Subrs " ++ (digits s.declared ++ (codes " array" ++ (subrs_text s.entries s.closing ++ rest))) =
    simp append_assoc in
    ap subrs_marker.read regrouped
    ∙ subrs_marker_read s.declared (subrs_text s.entries s.closing ++ rest) (omega (arith, few)) (ap (λ (u : List ℕ). white_comes (u ++ rest)) line.1)

stops_slash : (middle rest : List ℕ) → Stops is_regular middle → Stops is_regular (middle ++ (47 ∷ rest))
stops_slash [] rest s = refl
stops_slash (b ∷ middle) rest s = s

-- no CharStrings marker stands where a Subrs marker does
not_chars : (rest : List ℕ) → chars_marker.read (codes "/Subrs " ++ rest) ≡ None
unfolding chars_marker
not_chars rest = rw (fixed_strip (codes "/CharStrings") (codes "/Subrs " ++ rest)) refl

before_is : (n : ℕ) (x : (List ℕ × ℕ) × List ℕ) → ltb (length x.0.0) n ≡ true → before_place n (Some x) ≡ Some x
before_is n x t = rw t refl

-- the tables, where the markers are known
tables_again : (p : PrivatePieces) (s : SubrsPieces) (text : List ℕ) (chars : (List ℕ × Unit {0}) × List ℕ) (junk : List ℕ) →
    IsWritable p → ArePieces p.len_iv s
    → (tables_from White (length text) chars
    (Some (
      (p.private, s.declared),
      subrs_text s.entries s.closing
          ++ (p.middle ++ (glyphs_part p.glyphs
          ++ (p.tail ++ (10 ∷ junk)))),
    ))).read ≡ Ok (record { private = p.private; len_iv = p.len_iv; subrs = Some s; middle = p.middle; glyphs = p.glyphs; tail = p.tail })
unfolding tables_from
tables_again p s text chars junk h k =
    let t : List ℕ = p.tail ++ (10 ∷ junk) in
    let g : List ℕ = glyphs_part p.glyphs ++ t in
    let m : List ℕ = p.middle ++ g in
    let table : List ℕ = subrs_text s.entries s.closing ++ m in
    let read : table_at (subr White s.declared p.len_iv) (subrs_end White) table ≡ Ok (s.entries, s.closing, m) =
    subrs_read s.declared p.len_iv s.entries s.closing m k.declared k.entries k.closing (stops_slash p.middle _ h.middle_apart) in
    let next : first_at chars_marker m ≡ Some ((p.middle, tt), glyphs_text p.glyphs ++ t) =
    first_behind chars_marker p.middle g tt _ (chars_moves p.middle [] _ h.middle_chars) (chars_part_read p.glyphs t h.few) in
    rw (
      h.iv,
      read,
      next,
      glyphs_from_read text p.private (Some s) p.middle p.len_iv p.glyphs p.tail junk h.glyphs h.tail_apart h.middle_subrs h.tail_subrs h.tail_ends,
    ) refl

-- a private text with Subrs is read from its text
with_subrs_again : (p : PrivatePieces) (s : SubrsPieces) (junk : List ℕ) → IsWritable p → ArePieces p.len_iv s
    → (private_pieces White (p.private ++ (subrs_part (Some s) ++ (p.middle ++ (glyphs_part p.glyphs ++ (p.tail ++ (10 ∷ junk))))))).read ≡ Ok
    (record { private = p.private; len_iv = p.len_iv; subrs = Some s; middle = p.middle; glyphs = p.glyphs; tail = p.tail })
with_subrs_again p s junk h k =
    let t : List ℕ = p.tail ++ (10 ∷ junk) in
    let g : List ℕ = glyphs_part p.glyphs ++ t in
    let m : List ℕ = p.middle ++ g in
    let b : List ℕ = subrs_part (Some s) ++ m in
    let text : List ℕ = p.private ++ b in
    let table : List ℕ = subrs_text s.entries s.closing ++ m in
    let subrs : first_at subrs_marker text ≡ Some ((p.private, s.declared), table) =
    first_behind subrs_marker p.private b s.declared table (subrs_moves p.private [] _ h.no_subrs) (subrs_part_read s m k.declared) in
    let q : List ℕ = codes "Subrs " ++ (digits s.declared ++ (codes " array" ++ subrs_text s.entries s.closing)) in
    let y = is_found chars_marker (q ++ p.middle) g tt _ (chars_part_read p.glyphs t h.few) in
    let here : first_at chars_marker b ≡ Some ((47 ∷ y.0.0.0, y.0.0.1), y.0.1) =
    one_place chars_marker 47 (q ++ m) (not_chars ((digits s.declared ++ (codes " array" ++ subrs_text s.entries s.closing)) ++ m))
    ∙ ap (prepend (47 ∷ [])) (ap (first_at chars_marker) (sym (append_assoc q p.middle g)) ∙ y.1) in
    let chars : first_at chars_marker text ≡ Some ((p.private ++ (47 ∷ y.0.0.0), y.0.0.1), y.0.1) =
    past_none chars_marker p.private b (chars_moves p.private [] _ h.no_chars) ∙ ap (prepend p.private) here in
    let place : (List ℕ × Unit {0}) × List ℕ = ((p.private ++ (47 ∷ y.0.0.0), y.0.0.1), y.0.1) in
    let before : ltb (length p.private) (length place.0.0) ≡ true = lt-ltb _ _ (omega (arith, length-append p.private (47 ∷ y.0.0.0))) in
    pieces_read text place (Some ((p.private, s.declared), table)) _ chars subrs
    (ap (λ (o : Option ((List ℕ × ℕ) × List ℕ)). (tables_from White (length text) place o).read)
    (before_is (length place.0.0) ((p.private, s.declared), table) before) ∙ tables_again p s text place junk h k)

regrouped : (a b c d t junk : List ℕ) → (a ++ (b ++ (c ++ (d ++ (t ++ 10 ∷ []))))) ++ junk ≡ a ++ (b ++ (c ++ (d ++ (t ++ (10 ∷ junk)))))
regrouped a b c d t junk = simp append_assoc

-- the canonical private text is read as its pieces
pub private_again : (p : PrivatePieces) (junk : List ℕ) → IsWritable p → (private_pieces White (private_written p ++ junk)).read ≡ Ok p
private_again p junk h =
    ap (λ t. (private_pieces White t).read) (regrouped p.private (subrs_part p.subrs) p.middle (glyphs_part p.glyphs) p.tail junk)
    ∙ by_subrs p.subrs refl h.subrs
  where
    by_subrs : (o : Option SubrsPieces) → p.subrs ≡ o → AreOptional p.len_iv p.middle o →
        (private_pieces White (p.private ++ (subrs_part p.subrs ++ (p.middle ++ (glyphs_part p.glyphs ++ (p.tail ++ (10 ∷ junk))))))).read ≡ Ok p
    by_subrs None e k =
        ap (λ t. (private_pieces White t).read) (λ i. p.private ++ (subrs_part (e i) ++ (k i ++ (glyphs_part p.glyphs ++ (p.tail ++ (10 ∷ junk))))))
        ∙ (no_subrs_again p junk h e
        ∙ (λ i. Ok (record { private = p.private; len_iv = p.len_iv; subrs = sym e i; middle = sym k i; glyphs = p.glyphs; tail = p.tail })))
    by_subrs (Some s) e k =
        ap (λ t. (private_pieces White t).read) (λ i. p.private ++ (subrs_part (e i) ++ (p.middle ++ (glyphs_part p.glyphs ++ (p.tail ++ (10 ∷ junk))))))
        ∙ (with_subrs_again p s junk h k
        ∙ (λ i. Ok (record { private = p.private; len_iv = p.len_iv; subrs = sym e i; middle = p.middle; glyphs = p.glyphs; tail = p.tail })))
