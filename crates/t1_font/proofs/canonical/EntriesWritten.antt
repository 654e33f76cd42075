-- The tables of Subrs and of glyphs are read as they are written.
use Rattle.std.proofs.{Common.{◌≡◌, ℕ, ◌≤◌, ◌<◌, ◌^◌, true, false, List, [], ◌∷◌, ◌++◌, length, Some, Ok, refl, ap, ◌∙◌, append_assoc, arith}, lemmas.Slice.Eq.{bytes_eq-Decides}}
use Rattle.std.proofs.lemmas.Bool.{le-leb, lt-ltb, and_from}
use Rattle.std.specs.{Prelude.{codes}, Fmt.{decimal as digits}, List.{AllByRecursion}}
use Rattle.t1_grammar.{specs.{Grammar.{Grammar, that, run, fixed, Stops}, Tables.{with_front, table_at}, TableLaws.{Apart, table_at-step}}, proofs.Grammars.{bind_read, that_read, run_read}}
use Rattle.t1_bytes.specs.White.{white}
use Rattle.t1_text.specs.{declared.dialect.Spacing.TheVariants.{White}, Words.{is_regular, is_word, keyword, name, is_name, next_name}, Entry.{Body, Entry, body, entry}}
use Rattle.t1_text.specs.{Subrs.{Subr, subr_key, subr, subrs_end}, Glyphs.{Glyph, glyph, glyphs_end}, FontWords.{IsWord, IsPhrase}}
use Rattle.t1_text.specs.EntryLaws.{entry_eats, entry_apart, subr_key_apart, next_name_apart}
use Rattle.t1_font.specs.Writing.{body_text, entry_text, entries_text, index_text, subrs_text, name_text, glyphs_text}
use Rattle.t1_text.proofs.Written.{white_one, gap_one, word_read, keyword_read, decimal_read, dup_regular, black, black_digits, count_read, length_read, one_read, no_white}
use Rattle.t1_text.proofs.Phrases.{phrase_behind, phrase_starts, closing_read}

pub fixed_read : (w rest : List ℕ) → (fixed w).read (w ++ rest) ≡ Some (w, rest)
fixed_read w rest = (fixed w).again w w rest ((refl, refl), (bytes_eq-Decides w w).1 refl)

pub name_read : (n rest : List ℕ) → IsWord 127 n → Stops is_regular rest → name.read (codes "/" ++ (n ++ rest)) ≡ Some (n, rest)
unfolding name
name_read n rest h s =
    bind_read (fixed (codes "/")) (λ _. that is_name (run is_regular)) (codes "/" ++ (n ++ rest))
    (codes "/") (n ++ rest) (Some (n, rest)) (fixed_read (codes "/") (n ++ rest))
    (that_read is_name (run is_regular) (n ++ rest) n rest (run_read is_regular n rest h.regular s)
    (and_from _ _ (le-leb 1 (length n) h.some) (le-leb (length n) 127 h.few)))

-- a word of 1 to 32 bytes passes the test for words
pub is_word_of : (w : List ℕ) → IsWord 32 w → is_word w ≡ true
is_word_of w h = and_from _ _ (le-leb 1 (length w) h.some) (le-leb (length w) 32 h.few)

-- ---- entries

-- what can stand behind a key
pub record IsBody (iv : ℕ) (b : Body) : Type 0 where
  pub long : iv ≤ length b.bytes
  pub short : length b.bytes ≤ 65535
  pub rd : IsWord 32 b.rd
  pub phrase : IsPhrase true b.phrase

-- an entry that can be written
abbrev pub IsEntry : {K : Type 0} → (K → Type 0) → ℕ → Entry K → Type 0
IsEntry IsKey iv e = IsKey e.key × IsBody iv e.body

-- what stands behind a key is read from its text
body_read : (iv : ℕ) (b : Body) (rest : List ℕ) → IsBody iv b → Stops is_regular rest → (body iv).read (body_text b ++ rest) ≡ Some (b, rest)
unfolding body
body_read iv b rest h s =
    let t4 : List ℕ = 32 ∷ (b.phrase ++ rest) in
    let t3 : List ℕ = b.bytes ++ t4 in
    let t2 : List ℕ = b.rd ++ (32 ∷ t3) in
    let t1 : List ℕ = digits (length b.bytes) ++ (32 ∷ t2) in
    let regrouped : body_text b ++ rest ≡ 32 ∷ t1 = simp append_assoc in
    let fits : length b.bytes < 10 ^ 9 = omega (arith, h.short) in
    rw (
      regrouped,
      gap_one t1 (black_digits (length b.bytes) (32 ∷ t2) fits),
      length_read iv (length b.bytes) (32 ∷ t2) h.long h.short refl,
      gap_one t2 (black b.rd (32 ∷ t3) h.rd.regular h.rd.some),
      word_read b.rd (32 ∷ t3) h.rd.regular (is_word_of b.rd h.rd) refl,
      one_read t3,
      count_read b.bytes t4,
      no_white (b.phrase ++ rest) (phrase_starts true b.phrase h.phrase rest),
      phrase_behind true b.phrase rest h.phrase s,
    ) refl

-- a table is read from its canonical text, where its keys are read from theirs
module _ {K : Type 0} (key : Grammar K) (close : Grammar (List ℕ)) (apart : Apart key close) (key_text : K → List ℕ) (IsKey : K → Type 0)
    (key_read : (k : K) (rest : List ℕ) → IsKey k → Stops is_regular rest → key.read (10 ∷ (key_text k ++ rest)) ≡ Some (k, rest)) (iv : ℕ) where
  entry_read : (e : Entry K) (rest : List ℕ) → IsEntry IsKey iv e → Stops is_regular rest → (entry key iv).read (entry_text key_text e ++ rest) ≡ Some (e, rest)
  unfolding entry
  entry_read e rest h s =
      let behind : List ℕ = body_text e.body ++ rest in
      let regrouped : entry_text key_text e ++ rest ≡ 10 ∷ (key_text e.key ++ behind) =
      ap (λ (u : List ℕ). 10 ∷ u) (append_assoc (key_text e.key) (body_text e.body) rest) in
      rw (regrouped, key_read e.key behind h.0 refl, body_read iv e.body rest h.1 s) refl

  begins_line : (es : List (Entry K)) (closing rest : List ℕ) → Stops is_regular (entries_text key_text es closing ++ rest)
  begins_line [] closing rest = refl
  begins_line (e ∷ es) closing rest = refl

  table_read : (es : List (Entry K)) (closing rest : List ℕ) → AllByRecursion (IsEntry IsKey iv) es →
      ((after : List ℕ) → Stops is_regular after → close.read (10 ∷ (closing ++ after)) ≡ Some (closing, after)) → Stops is_regular rest →
      table_at (entry key iv) close (entries_text key_text es closing ++ rest) ≡ Ok (es, closing, rest)
  table_read [] closing rest all ends s = rw (table_at-step (entry key iv) close (entry_eats key iv) (10 ∷ (closing ++ rest)), ends rest s) refl
  table_read (e ∷ es) closing rest all ends s =
      let others : List ℕ = entries_text key_text es closing ++ rest in
      let text : List ℕ = entry_text key_text e ++ others in
      let here : (entry key iv).read text ≡ Some (e, others) = entry_read e others all.0 (begins_line es closing rest) in
      let one : table_at (entry key iv) close text ≡ with_front (e ∷ []) (table_at (entry key iv) close others) =
      rw (table_at-step (entry key iv) close (entry_eats key iv) text, entry_apart key iv close apart text (e, others) here, here) refl in
      ap (table_at (entry key iv) close) (append_assoc (entry_text key_text e) (entries_text key_text es closing) rest)
      ∙ (one ∙ ap (with_front (e ∷ [])) (table_read es closing rest all.1 ends s))

-- ---- Subrs

-- the index of a Subr is read from its text
subr_key_read : (declared : ℕ) → declared ≤ 65535 → (i : ℕ) (rest : List ℕ) → i < declared → Stops is_regular rest →
    (subr_key White declared).read (10 ∷ (index_text i ++ rest)) ≡ Some (i, rest)
unfolding subr_key
subr_key_read declared few i rest h s =
    let small : i < 10 ^ 9 = omega (arith, h, few) in
    rw (
      keyword_read (codes "dup") (32 ∷ (digits i ++ rest)) dup_regular refl,
      gap_one (digits i ++ rest) (black_digits i rest small),
      decimal_read i rest small s,
      lt-ltb i declared h,
    ) refl

-- a table of Subrs is read from its text
pub subrs_read : (declared iv : ℕ) (es : List Subr) (closing rest : List ℕ) → declared ≤ 65535 →
    AllByRecursion (IsEntry (λ i. i < declared) iv) es → IsPhrase false closing → Stops is_regular rest →
    table_at (subr White declared iv) (subrs_end White) (subrs_text es closing ++ rest) ≡ Ok (es, closing, rest)
subrs_read declared iv es closing rest few all ends s =
    table_read (subr_key White declared) (subrs_end White) (subr_key_apart White declared) index_text
    (λ i. i < declared) (subr_key_read declared few) iv es closing rest
    all (closing_read closing ends) s

-- ---- the glyphs

next_name_read : (n rest : List ℕ) → IsWord 127 n → Stops is_regular rest → (next_name White).read (10 ∷ (name_text n ++ rest)) ≡ Some (n, rest)
unfolding next_name
next_name_read n rest h s = bind_read white (λ _. name) (10 ∷ (name_text n ++ rest)) (10 ∷ [])
    (codes "/" ++ (n ++ rest)) _ (white_one 10 (codes "/" ++ (n ++ rest)) refl refl) (name_read n rest h s)

end_read : (rest : List ℕ) → Stops is_regular rest → glyphs_end.read (10 ∷ (codes "end" ++ rest)) ≡ Some (codes "end", rest)
unfolding glyphs_end
end_read rest s = bind_read white (λ _. keyword (codes "end")) (10 ∷ (codes "end" ++ rest)) (10 ∷ []) (codes "end" ++ rest) _
    (white_one 10 (codes "end" ++ rest) refl refl) (keyword_read (codes "end") rest (refl, (refl, (refl, tt))) s)

-- a table of glyphs is read from its text
pub glyphs_read : (iv : ℕ) (es : List Glyph) (rest : List ℕ) → AllByRecursion (IsEntry (IsWord 127) iv) es → Stops is_regular rest →
    table_at (glyph iv) glyphs_end (glyphs_text es ++ rest) ≡ Ok (es, codes "end", rest)
glyphs_read iv es rest all s =
    table_read (next_name White) glyphs_end next_name_apart name_text (IsWord 127) next_name_read iv es (codes "end") rest all end_read s
