-- A file that spells a font spells the same font widely: where white space alone stands, no comment begins.
use Rattle.std.proofs.Common.{◌≡◌, ℕ, ◌==◌, Bool, true, false, not, inl, inr, List, [], ◌∷◌, ◌++◌, take, drop, Option, Some, None, refl, sym, ap, subst, ◌∙◌, append_assoc, true≢false, arith}
use Rattle.std.proofs.{lemmas.Option.{cond_some}, lemmas.Bool.{eqb-true, cases_Bool}, lemmas.List.{append-nil}, lemmas.Slice.Eq.{bytes_eq-Decides}}
use Rattle.std.specs.{Prelude.{codes}, List.{AllByRecursion, prefix_len}, Str.{bytes_eq}}
use Rattle.t1_grammar.specs.{Grammar.{Grammar, pure, ◌>>=◌, ◌>>◌, that, may_be, Stops, fixed, AtFront, NotAtFront, unspelled}, Tables.{Entries, IsTable}, Scans.{GoesOn}}
use Rattle.t1_bytes.specs.White.{is_white, white, gap}
use Rattle.t1_text.specs.{declared.dialect.Spacing.TheVariants.{White, Comments}, Dialect.{Blank, spacing, white_and_comments, white_in, gap_in, strict, wide}}
use Rattle.t1_text.specs.{Words.{is_regular, is_word, is_decimal, word, keyword, decimal, name, next_name, phrase_of, passes}, Entry.{entry}, Subrs.{Subr, subr_key, subr, subrs_end}}
use Rattle.t1_text.specs.Encoding.{octal, code, CodeEntry, put_entry, code_entry, Opening, Whole, OpensPuts, OpensNames, encoding_start, readonly, encoding_end, array_start, array_end}
use Rattle.t1_text.specs.{Encoding.{encoding_word, encoding_table, loop_range, loop_body, encoding_loop}, EntryLaws.{keyword_text}}
use Rattle.t1_font.specs.{Pieces.{EncodingText, OneWord, Puts, ClearPieces, SubrsPieces, PrivatePieces}, FontValue.{FontValue}}
use Rattle.t1_font.specs.Spelling.{SpellsEncoding, IsClear, SpellsTables, HasTables, HasGlyphs, IsPrivate, HasPieces, Spells, SpellsWidely}
use Rattle.t1_font.proofs.read_fonts.ReadClear.{word_start}

-- ---- where no comment begins

-- a comment comes
abbrev pub starts_comment : List ℕ → Bool
starts_comment [] = false
starts_comment (b ∷ bs) = b == 37

-- the texts of a grammar begin no comment
abbrev pub Plain : {A : Type 0} → Grammar A → Type 0
Plain {A} g = (a : A) (text rest : List ℕ) → g.Spells a text rest → starts_comment (text ++ rest) ≡ false

white_goes : (a rest : List ℕ) → AllByRecursion (λ b. is_white b ≡ true) a → Stops is_white rest → starts_comment rest ≡ false → GoesOn spacing Blank a rest
white_goes [] [] w s h = tt
white_goes [] (b ∷ rest) w s h = rw (s, h) refl
white_goes (b ∷ a) rest w s h = (Blank, rw w.0 refl, white_goes a rest w.1 s h)

-- white space is white space and no comment
white_wide : (a text rest : List ℕ) → white.Spells a text rest → starts_comment rest ≡ false → white_and_comments.Spells a text rest
unfolding white_and_comments
white_wide a text rest s h = (s.0, white_goes a rest s.1 s.2 h)

gap_wide : (a text rest : List ℕ) → gap.Spells a text rest → starts_comment rest ≡ false → (gap_in Comments).Spells a text rest
unfolding gap
gap_wide a text rest s h = (white_wide a text rest s.0 h, s.1)

-- what begins with a text that begins no comment begins none
starts : {A : Type 0} (g : Grammar A) → Plain g → (a : A) (text front back rest : List ℕ) → text ≡ front ++ back → g.Spells a front (back ++ rest) →
    starts_comment (text ++ rest) ≡ false
starts g plain a text front back rest e s =
    ap (λ t. starts_comment (t ++ rest)) e ∙ (ap starts_comment (append_assoc front back rest) ∙ plain a front (back ++ rest) s)

module _ {A : Type 0} (g : Grammar A) (plain : Plain g) where
  -- what stands between words, a text of g, and more
  abbrev pub Then : Grammar (List ℕ) → (A → List ℕ → Type 0) → List ℕ → List ℕ → Type 0
  Then space More text rest =
      (w front back : List ℕ) × (text ≡ front ++ back) × space.Spells w front (back ++ rest) ×
      ((a : A) × (own after : List ℕ) × (back ≡ own ++ after) × g.Spells a own (after ++ rest) × More a after)

  white_then : {More Wider : A → List ℕ → Type 0} (text rest : List ℕ) → Then white More text rest → ((a : A) (t : List ℕ) → More a t → Wider a t) →
      Then (white_in Comments) Wider text rest
  white_then text rest s f =
      let n = s.5 in
      let none = starts g plain n.0 s.2 n.1 n.2 rest n.3 n.4 in
      (s.0, s.1, s.2, s.3, white_wide s.0 s.1 (s.2 ++ rest) s.4 none, (n.0, n.1, n.2, n.3, n.4, f n.0 n.2 n.5))

  gap_then : {More Wider : A → List ℕ → Type 0} (text rest : List ℕ) → Then gap More text rest → ((a : A) (t : List ℕ) → More a t → Wider a t) →
      Then (gap_in Comments) Wider text rest
  gap_then text rest s f =
      let n = s.5 in
      let none = starts g plain n.0 s.2 n.1 n.2 rest n.3 n.4 in
      (s.0, s.1, s.2, s.3, gap_wide s.0 s.1 (s.2 ++ rest) s.4 none, (n.0, n.1, n.2, n.3, n.4, f n.0 n.2 n.5))

  -- what stands between words, and a text of g
  abbrev pub Last : Grammar (List ℕ) → A → List ℕ → List ℕ → Type 0
  Last space a text rest = (w front back : List ℕ) × (text ≡ front ++ back) × space.Spells w front (back ++ rest) × g.Spells a back rest

  white_last : (a : A) (text rest : List ℕ) → Last white a text rest → Last (white_in Comments) a text rest
  white_last a text rest s = (s.0, s.1, s.2, s.3, white_wide s.0 s.1 (s.2 ++ rest) s.4 (plain a s.2 rest s.5), s.5)

  gap_last : (a : A) (text rest : List ℕ) → Last gap a text rest → Last (gap_in Comments) a text rest
  gap_last a text rest s = (s.0, s.1, s.2, s.3, gap_wide s.0 s.1 (s.2 ++ rest) s.4 (plain a s.2 rest s.5), s.5)

-- ---- which texts begin none

not_percent : (b : ℕ) → is_regular b ≡ true → (b == 37) ≡ false
not_percent b r = elim (cases_Bool (b == 37)) [
  | inl e ↦ absurd (true≢false (sym r ∙ ap is_regular (eqb-true b 37 e)))
  | inr e ↦ e
]

-- the first byte of a fixed text
abbrev begins_plain : List ℕ → Bool
begins_plain [] = false
begins_plain (b ∷ bs) = not (b == 37)

text_plain : (w rest : List ℕ) → begins_plain w ≡ true → starts_comment (w ++ rest) ≡ false
text_plain [] rest h = absurd (true≢false (sym h))
text_plain (b ∷ w) rest h = by_test (b == 37) h
  where
    by_test : (t : Bool) → not t ≡ true → t ≡ false
    by_test true k = absurd (true≢false (sym k))
    by_test false k = refl

keyword_plain : (w : List ℕ) → begins_plain w ≡ true → Plain (keyword w)
keyword_plain w h a text rest s = subst (λ t. starts_comment (t ++ rest) ≡ false) (sym (keyword_text w a text rest s)) (text_plain w rest h)

fixed_plain : (w : List ℕ) → begins_plain w ≡ true → Plain (fixed w)
fixed_plain w h a text rest s =
    let own : text ≡ w = s.0.0 ∙ sym ((bytes_eq-Decides w a).0 s.1) in
    subst (λ t. starts_comment (t ++ rest) ≡ false) (sym own) (text_plain w rest h)

-- a run of regular bytes that has one
run_plain : (b : ℕ) (a text rest : List ℕ) → text ≡ b ∷ a → is_regular b ≡ true → starts_comment (text ++ rest) ≡ false
run_plain b a text rest e r = ap (λ t. starts_comment (t ++ rest)) e ∙ not_percent b r

word_plain : Plain word
unfolding word
word_plain [] text rest s = absurd (true≢false (sym s.1))
word_plain (b ∷ a) text rest s = run_plain b a text rest s.0.0 s.0.1.0

tested_plain : (test : List ℕ → Bool) → Plain (that test word)
tested_plain test a text rest s = word_plain a text rest s.0

phrase_plain : (test : List ℕ → Bool) → Plain (phrase_of test)
unfolding phrase_of
phrase_plain test p text rest s = starts (that test word) (tested_plain test) s.0 text s.1 s.2 rest s.3 s.4

decimal_plain : Plain decimal
unfolding decimal
decimal_plain n text rest s =
    ap (λ t. starts_comment (t ++ rest)) s.3 ∙ (ap starts_comment (append_assoc s.1 s.2 rest) ∙ by_run s.0 s.1 (s.2 ++ rest) s.4.0.0 s.4.0.1 s.4.1)
  where
    by_run : (a text rest : List ℕ) → text ≡ a → AllByRecursion (λ b. is_regular b ≡ true) a → is_decimal a ≡ true → starts_comment (text ++ rest) ≡ false
    by_run [] text rest e r h = absurd (true≢false (sym h))
    by_run (b ∷ a) text rest e r h = run_plain b a text rest e r.0

octal_plain : Plain octal
unfolding octal
octal_plain n text rest s = starts (fixed (codes "8#")) (fixed_plain (codes "8#") refl) s.0 text s.1 s.2 rest s.3 s.4

code_plain : Plain code
unfolding code
code_plain n text rest s = elim s.0 [ inl p ↦ decimal_plain n text rest p | inr p ↦ octal_plain n text rest p.0 ]

name_plain : Plain name
unfolding name
name_plain n text rest s = starts (fixed (codes "/")) (fixed_plain (codes "/") refl) s.0 text s.1 s.2 rest s.3 s.4

-- ---- the entries of tables

put_wide : (e : CodeEntry) (text rest : List ℕ) → (put_entry White).Spells e text rest → (put_entry Comments).Spells e text rest
unfolding put_entry
put_wide e text rest s =
    white_then (keyword (codes "dup")) (keyword_plain (codes "dup") refl) text rest s (λ a t s.
    gap_then code code_plain t rest s (λ a t s.
    white_then name name_plain t rest s (λ a t s.
    gap_then (keyword (codes "put")) (keyword_plain (codes "put") refl) t rest s (λ a t s. s))))

next_name_wide : (n text rest : List ℕ) → (next_name White).Spells n text rest → (next_name Comments).Spells n text rest
unfolding next_name
next_name_wide n text rest s = white_last name name_plain n text rest s

subr_key_wide : (declared i : ℕ) (text rest : List ℕ) → (subr_key White declared).Spells i text rest → (subr_key Comments declared).Spells i text rest
unfolding subr_key
subr_key_wide declared i text rest s = white_then (keyword (codes "dup")) (keyword_plain (codes "dup") refl) text rest s (λ a t s. s)

subr_wide : (declared iv : ℕ) (e : Subr) (text rest : List ℕ) → (subr White declared iv).Spells e text rest → (subr Comments declared iv).Spells e text rest
unfolding entry
subr_wide declared iv e text rest s = (s.0, s.1, s.2, s.3, subr_key_wide declared s.0 s.1 (s.2 ++ rest) s.4, s.5)

subrs_end_wide : (p text rest : List ℕ) → (subrs_end White).Spells p text rest → (subrs_end Comments).Spells p text rest
unfolding subrs_end
subrs_end_wide p text rest s = white_last (phrase_of (passes false)) (phrase_plain (passes false)) p text rest s

module _ {A B : Type 0} (entry wider : Grammar A) (close ends : Grammar B) where
  entries_wide : ((a : A) (text rest : List ℕ) → entry.Spells a text rest → wider.Spells a text rest) → (xs : List A) (text rest : List ℕ) →
      Entries entry xs text rest → Entries wider xs text rest
  entries_wide f [] text rest s = s
  entries_wide f (a ∷ xs) text rest s = (s.0, s.1, s.2, f a s.0 (s.1 ++ rest) s.3, entries_wide f xs s.1 rest s.4)

  table_wide : ((a : A) (text rest : List ℕ) → entry.Spells a text rest → wider.Spells a text rest) →
      ((b : B) (text rest : List ℕ) → close.Spells b text rest → ends.Spells b text rest) →
      (xs : List A) (b : B) (text rest : List ℕ) → IsTable entry close xs b text rest → IsTable wider ends xs b text rest
  table_wide f h xs b text rest s = (s.0, s.1, s.2, entries_wide f xs s.0 (s.1 ++ rest) s.3, h b s.1 rest s.4)

-- ---- how an Encoding ends

-- where one keyword stands, another one doesn't
other_keyword : (v w bytes : List ℕ) (x : List ℕ × List ℕ) → (keyword v).read bytes ≡ Some x → bytes_eq w v ≡ false → (keyword w).read bytes ≡ None
unfolding keyword
other_keyword v w bytes x e differ =
    let n = prefix_len is_regular bytes in
    let t = cond_some (bytes_eq v (take n bytes)) (take n bytes, drop n bytes) x e in
    let own : take n bytes ≡ v = sym ((bytes_eq-Decides v (take n bytes)).0 t.0) in
    rw (own, differ) refl

-- no `readonly` stands where `def` does
not_readonly : (v bytes : List ℕ) (x : List ℕ × List ℕ) → (keyword v).read bytes ≡ Some x → bytes_eq (codes "readonly") v ≡ false →
    NotAtFront (keyword (codes "readonly") >> gap_in Comments) bytes
not_readonly v bytes x e differ =
    let none = other_keyword v (codes "readonly") bytes x e differ in
    unspelled (keyword (codes "readonly") >> gap_in Comments) bytes (rw none refl)

end_wide : (c text rest : List ℕ) → (encoding_end White).Spells c text rest → (encoding_end Comments).Spells c text rest
unfolding encoding_end
end_wide c text rest s = by_readonly s.5.4
  where
    def_read : (keyword (codes "def")).read (s.5.2 ++ rest) ≡ Some (c, rest)
    def_read = (keyword (codes "def")).again c s.5.2 rest s.5.5

    def_plain : starts_comment (s.5.2 ++ rest) ≡ false
    def_plain = keyword_plain (codes "def") refl c s.5.2 rest s.5.5

    by_readonly : (readonly White).Spells s.5.0 s.5.1 (s.5.2 ++ rest) → (encoding_end Comments).Spells c text rest
    by_readonly (inl p) =
        let word = starts (keyword (codes "readonly")) (keyword_plain (codes "readonly") refl) p.0 s.5.1 p.1 p.2 (s.5.2 ++ rest) p.3 p.4 in
        let none = ap (λ t. starts_comment (t ++ rest)) s.5.3 ∙ (ap starts_comment (append_assoc s.5.1 s.5.2 rest) ∙ word) in (
          s.0,
          s.1,
          s.2,
          s.3,
          white_wide s.0 s.1 (s.2 ++ rest) s.4 none,
          (s.5.0, s.5.1, s.5.2, s.5.3, inl (p.0, p.1, p.2, p.3, p.4, gap_wide s.5.0 p.2 (s.5.2 ++ rest) p.5 def_plain), s.5.5),
        )
    by_readonly (inr q) =
        let own : s.5.1 ++ (s.5.2 ++ rest) ≡ s.5.2 ++ rest = ap (λ t. t ++ (s.5.2 ++ rest)) q.0.0 in
        let none = ap (λ t. starts_comment (t ++ rest)) s.5.3 ∙ (ap starts_comment (append_assoc s.5.1 s.5.2 rest ∙ own) ∙ def_plain) in
        let absent = subst (NotAtFront (keyword (codes "readonly") >> gap_in Comments)) (sym own)
        (not_readonly (codes "def") (s.5.2 ++ rest) _ def_read refl) in
        (s.0, s.1, s.2, s.3, white_wide s.0 s.1 (s.2 ++ rest) s.4 none, (s.5.0, s.5.1, s.5.2, s.5.3, inr (q.0, absent), s.5.5))

array_end_wide : (c text rest : List ℕ) → (array_end White).Spells c text rest → (array_end Comments).Spells c text rest
unfolding array_end
array_end_wide c text rest s = white_then (fixed (codes "]")) (fixed_plain (codes "]") refl) text rest s (λ a t s. end_wide c t rest s)

-- ---- how an Encoding begins

-- no bytes between a word and its `def`
word_wide : (w text rest : List ℕ) → (encoding_word strict).Spells w text rest → (encoding_word wide).Spells w text rest
unfolding encoding_word
word_wide w text rest s = white_then word word_plain text rest s (λ a t s.
    let r = s.5 in
    let k = r.5 in
    let def_read = (keyword (codes "def")).again k.0 k.1 (k.2 ++ rest) k.4 in
    let def_plain = keyword_plain (codes "def") refl k.0 k.1 (k.2 ++ rest) k.4 in
    let last : r.2 ++ rest ≡ k.1 ++ (k.2 ++ rest) = ap (λ u. u ++ rest) k.3 ∙ append_assoc k.1 k.2 rest in
    let own : s.2 ++ rest ≡ r.2 ++ rest = ap (λ u. u ++ rest) (r.3 ∙ ap (λ u. u ++ r.2) r.4.0) in
    let none : starts_comment (s.2 ++ rest) ≡ false = ap starts_comment (own ∙ last) ∙ def_plain in
    let here : r.1 ++ (r.2 ++ rest) ≡ k.1 ++ (k.2 ++ rest) = ap (λ u. u ++ (r.2 ++ rest)) r.4.0 ∙ last in
    let absent =
    subst (NotAtFront (keyword (codes "readonly") >> gap_in Comments)) (sym here) (not_readonly (codes "def") (k.1 ++ (k.2 ++ rest)) _ def_read refl) in
    (s.0, s.1, s.2, s.3, gap_wide s.0 s.1 (s.2 ++ rest) s.4 none, (r.0, r.1, r.2, r.3, inr (r.4, absent), k)))

start_table_wide : (a text rest : List ℕ) → (encoding_table White).Spells a text rest → (encoding_table Comments).Spells a text rest
unfolding encoding_table
start_table_wide a text rest s = white_then (keyword (codes "256")) (keyword_plain (codes "256") refl) text rest s (λ k t s.
    gap_last (keyword (codes "array")) (keyword_plain (codes "array") refl) a t rest s)

range_wide : (a text rest : List ℕ) → (loop_range White).Spells a text rest → (loop_range Comments).Spells a text rest
range_wide a text rest s = white_then (keyword (codes "0")) (keyword_plain (codes "0") refl) text rest s (λ k t s.
    gap_then (keyword (codes "1")) (keyword_plain (codes "1") refl) t rest s (λ k t s.
    gap_last (keyword (codes "255")) (keyword_plain (codes "255") refl) a t rest s))

body_wide : (a text rest : List ℕ) → (loop_body White).Spells a text rest → (loop_body Comments).Spells a text rest
body_wide a text rest s = white_then (keyword (codes "1")) (keyword_plain (codes "1") refl) text rest s (λ k t s.
    gap_then (keyword (codes "index")) (keyword_plain (codes "index") refl) t rest s (λ k t s.
    gap_then (keyword (codes "exch")) (keyword_plain (codes "exch") refl) t rest s (λ k t s.
    white_then (fixed (codes "/")) (fixed_plain (codes "/") refl) t rest s (λ k t s.
    (s.0, s.1, s.2, s.3, s.4, gap_last (keyword (codes "put")) (keyword_plain (codes "put") refl) a s.2 rest s.5)))))

loop_wide : (a text rest : List ℕ) → (encoding_loop White).Spells a text rest → (encoding_loop Comments).Spells a text rest
unfolding encoding_loop
loop_wide a text rest s = (
  s.0,
  s.1,
  s.2,
  s.3,
  range_wide s.0 s.1 (s.2 ++ rest) s.4,
  white_then (fixed (codes "{")) (fixed_plain (codes "{") refl) s.2 rest s.5 (λ k t s. (
    s.0,
    s.1,
    s.2,
    s.3,
    body_wide s.0 s.1 (s.2 ++ rest) s.4,
    white_then (fixed (codes "}")) (fixed_plain (codes "}") refl) s.2 rest s.5 (λ k t s.
        white_last (keyword (codes "for")) (keyword_plain (codes "for") refl) a t rest s),
  )),
)

array_wide : (a text rest : List ℕ) → (array_start White).Spells a text rest → (array_start Comments).Spells a text rest
unfolding array_start
array_wide a text rest s = white_last (fixed (codes "[")) (fixed_plain (codes "[") refl) a text rest s

-- ---- which Encoding it is

-- what is read behind what may stand between words
read_behind : (w front back rest text : List ℕ) → text ≡ front ++ back → (white_in Comments).Spells w front (back ++ rest) →
    (white_in Comments).read (text ++ rest) ≡ Some (w, back ++ rest)
read_behind w front back rest text e s =
    ap (white_in Comments).read (ap (λ t. t ++ rest) e ∙ append_assoc front back rest) ∙ (white_in Comments).again w front (back ++ rest) s

-- a keyword is a word
keyword_word : (v bytes : List ℕ) (x : List ℕ × List ℕ) → (keyword v).read bytes ≡ Some x → is_word v ≡ true → word.read bytes ≡ Some x
unfolding keyword word
keyword_word v bytes x e h =
    let n = prefix_len is_regular bytes in
    let t = cond_some (bytes_eq v (take n bytes)) (take n bytes, drop n bytes) x e in
    let own : take n bytes ≡ v = sym ((bytes_eq-Decides v (take n bytes)).0 t.0) in
    rw (ap is_word own ∙ h) (ap (λ (y : List ℕ × List ℕ). Some y) t.1)

-- a table is no word
table_no_word : (a text rest : List ℕ) → (encoding_table Comments).Spells a text rest → (encoding_word wide).read (text ++ rest) ≡ None
unfolding encoding_table encoding_word
table_no_word a text rest s =
    let k = s.5 in
    let g = k.5 in
    let first = read_behind s.0 s.1 s.2 rest text s.3 s.4 in
    let number_read : (keyword (codes "256")).read (s.2 ++ rest) ≡ Some (k.0, k.2 ++ rest) =
    ap (keyword (codes "256")).read (ap (λ t. t ++ rest) k.3 ∙ append_assoc k.1 k.2 rest) ∙ (keyword (codes "256")).again k.0 k.1 (k.2 ++ rest) k.4 in
    let second = keyword_word (codes "256") (s.2 ++ rest) _ number_read refl in
    let third : (gap_in Comments).read (k.2 ++ rest) ≡ Some (g.0, g.2 ++ rest) =
    ap (gap_in Comments).read (ap (λ t. t ++ rest) g.3 ∙ append_assoc g.1 g.2 rest) ∙ (gap_in Comments).again g.0 g.1 (g.2 ++ rest) g.4 in
    let array_read = (keyword (codes "array")).again a g.2 rest g.5 in
    let no_readonly = other_keyword (codes "array") (codes "readonly") (g.2 ++ rest) _ array_read refl in
    let no_def = other_keyword (codes "array") (codes "def") (g.2 ++ rest) _ array_read refl in
    rw (first, second, third, no_readonly, no_def) refl

-- an array is no word, and no table
array_no_word : (a text rest : List ℕ) → (array_start Comments).Spells a text rest → (encoding_word wide).read (text ++ rest) ≡ None
unfolding array_start encoding_word word
array_no_word a text rest s =
    let own : s.2 ++ rest ≡ 91 ∷ rest = ap (λ t. t ++ rest) (s.5.0.0 ∙ sym ((bytes_eq-Decides (codes "[") a).0 s.5.1)) in
    rw (read_behind s.0 s.1 s.2 rest text s.3 s.4, own) refl

array_no_table : (a text rest : List ℕ) → (array_start Comments).Spells a text rest → (encoding_table Comments).read (text ++ rest) ≡ None
unfolding array_start encoding_table keyword
array_no_table a text rest s =
    let own : s.2 ++ rest ≡ 91 ∷ rest = ap (λ t. t ++ rest) (s.5.0.0 ∙ sym ((bytes_eq-Decides (codes "[") a).0 s.5.1)) in
    rw (read_behind s.0 s.1 s.2 rest text s.3 s.4, own) refl

-- a keyword stands behind what may stand between words
record Comes (v bytes : List ℕ) : Type 0 where
  pub before : List ℕ
  pub behind : List ℕ
  pub left : List ℕ × List ℕ
  pub white_read : (white_in Comments).read bytes ≡ Some (before, behind)
  pub keyword_read : (keyword v).read behind ≡ Some left

-- where another keyword comes, the loop doesn't
no_loop : (v bytes : List ℕ) → bytes_eq (codes "0") v ≡ false → Comes v bytes → (encoding_loop Comments).read bytes ≡ None
unfolding encoding_loop
no_loop v bytes differ c = rw (c.white_read, other_keyword v (codes "0") c.behind c.left c.keyword_read differ) refl

put_comes : (e : CodeEntry) (text rest : List ℕ) → (put_entry Comments).Spells e text rest → Comes (codes "dup") (text ++ rest)
unfolding put_entry
put_comes e text rest s =
    let k = s.5 in
    let here = ap (λ t. t ++ rest) k.3 ∙ append_assoc k.1 k.2 rest in
    record {
      before = s.0;
      behind = s.2 ++ rest;
      left = (k.0, k.2 ++ rest);
      white_read = read_behind s.0 s.1 s.2 rest text s.3 s.4;
      keyword_read = ap (keyword (codes "dup")).read here ∙ (keyword (codes "dup")).again k.0 k.1 (k.2 ++ rest) k.4;
    }

end_no_loop : (c text rest : List ℕ) → (encoding_end Comments).Spells c text rest → (encoding_loop Comments).read (text ++ rest) ≡ None
unfolding encoding_end
end_no_loop c text rest s = by_readonly s.5.4
  where
    comes : (v own after : List ℕ) (left : List ℕ × List ℕ) → s.2 ++ rest ≡ own ++ after → (keyword v).read (own ++ after) ≡ Some left → Comes v (text ++ rest)
    comes v own after left e r = record {
      before = s.0;
      behind = s.2 ++ rest;
      left = left;
      white_read = read_behind s.0 s.1 s.2 rest text s.3 s.4;
      keyword_read = ap (keyword v).read e ∙ r;
    }

    here : s.2 ++ rest ≡ s.5.1 ++ (s.5.2 ++ rest)
    here = ap (λ t. t ++ rest) s.5.3 ∙ append_assoc s.5.1 s.5.2 rest

    by_readonly : (readonly Comments).Spells s.5.0 s.5.1 (s.5.2 ++ rest) → (encoding_loop Comments).read (text ++ rest) ≡ None
    by_readonly (inl p) =
        let after : List ℕ = p.2 ++ (s.5.2 ++ rest) in
        let own : s.2 ++ rest ≡ p.1 ++ after = here ∙ (ap (λ t. t ++ (s.5.2 ++ rest)) p.3 ∙ append_assoc p.1 p.2 (s.5.2 ++ rest)) in
        no_loop (codes "readonly") (text ++ rest) refl
        (comes (codes "readonly") p.1 after (p.0, after) own ((keyword (codes "readonly")).again p.0 p.1 after p.4))
    by_readonly (inr q) =
        let own : s.2 ++ rest ≡ s.5.2 ++ rest = here ∙ ap (λ t. t ++ (s.5.2 ++ rest)) q.0.0 in
        no_loop (codes "def") (text ++ rest) refl (comes (codes "def") s.5.2 rest (c, rest) own ((keyword (codes "def")).again c s.5.2 rest s.5.5))

-- behind what opens a table that has none, no loop comes
table_no_loop : (es : List CodeEntry) (c text rest : List ℕ) → IsTable (code_entry strict) (encoding_end White) es c text rest →
    (encoding_loop Comments).read (text ++ rest) ≡ None
table_no_loop [] c text rest s =
    let own : text ++ rest ≡ s.1 ++ rest = ap (λ t. t ++ rest) (s.2 ∙ ap (λ t. t ++ s.1) s.3) in
    ap (encoding_loop Comments).read own ∙ end_no_loop c s.1 rest (end_wide c s.1 rest s.4)
table_no_loop (e ∷ es) c text rest s =
    let first = s.3 in
    let behind : List ℕ = first.1 ++ (s.1 ++ rest) in
    let own : text ++ rest ≡ first.0 ++ behind =
    ap (λ t. t ++ rest) s.2 ∙ (append_assoc s.0 s.1 rest ∙ (ap (λ t. t ++ (s.1 ++ rest)) first.2 ∙ append_assoc first.0 first.1 (s.1 ++ rest))) in
    ap (encoding_loop Comments).read own ∙ no_loop (codes "dup") (first.0 ++ behind) refl (put_comes e first.0 behind (put_wide e first.0 behind first.3))

-- which of the three forms it is
abbrev form : Opening → ℕ
form (Whole w) = 0
form OpensPuts = 1
form OpensNames = 2

no_word_here : (bytes : List ℕ) → (encoding_word wide).read bytes ≡ None → NotAtFront (encoding_word wide >>= λ w. pure (Whole w)) bytes
no_word_here bytes e = unspelled (encoding_word wide >>= λ w. pure (Whole w)) bytes (rw e refl)

no_table_here : (bytes : List ℕ) → (encoding_table Comments).read bytes ≡ None →
    NotAtFront (encoding_table Comments >> (may_be (encoding_loop Comments) >> pure OpensPuts)) bytes
no_table_here bytes e = unspelled (encoding_table Comments >> (may_be (encoding_loop Comments) >> pure OpensPuts)) bytes (rw e refl)

puts_start : (bytes entries : List ℕ) → AtFront (encoding_start strict) bytes (OpensPuts, entries) → (encoding_loop Comments).read entries ≡ None →
    AtFront (encoding_start wide) bytes (OpensPuts, entries)
unfolding encoding_start
puts_start bytes entries a none = (
  a.0,
  a.1,
  elim a.2 [
    | inl t ↦ absurd (omega (arith, ap form t.5.1))
    | inr t ↦ elim t.0 [
      | inl p ↦
          let q = p.5 in
          let table = start_table_wide p.0 p.1 (p.2 ++ entries) p.4 in
          let whole : a.0 ++ entries ≡ p.1 ++ (p.2 ++ entries) = ap (λ u. u ++ entries) p.3 ∙ append_assoc p.1 p.2 entries in
          let absent = no_word_here (a.0 ++ entries) (ap (encoding_word wide).read whole ∙ table_no_word p.0 p.1 (p.2 ++ entries) table) in
          inr (inl (p.0, p.1, p.2, p.3, table, (q.0, q.1, q.2, q.3, may_loop q.0 q.1 q.2 q.5.0 q.4, q.5)), absent)
      | inr u ↦ absurd (omega (arith, ap form u.0.5.1))
    ]
  ],
)
  where
    may_loop : (l own after : List ℕ) → after ≡ [] → (may_be (encoding_loop White)).Spells l own (after ++ entries) →
        (may_be (encoding_loop Comments)).Spells l own (after ++ entries)
    may_loop l own after e (inl p) = inl (loop_wide l own (after ++ entries) p)
    may_loop l own after e (inr p) =
        let here : own ++ (after ++ entries) ≡ entries = λ i. p.0.0 i ++ (e i ++ entries) in
        inr (p.0, subst (NotAtFront (encoding_loop Comments)) (sym here) (unspelled (encoding_loop Comments) entries none))

names_start : (bytes entries : List ℕ) → AtFront (encoding_start strict) bytes (OpensNames, entries) → AtFront (encoding_start wide) bytes (OpensNames, entries)
unfolding encoding_start
names_start bytes entries a = (
  a.0,
  a.1,
  elim a.2 [
    | inl t ↦ absurd (omega (arith, ap form t.5.1))
    | inr t ↦ elim t.0 [
      | inl p ↦ absurd (omega (arith, ap form p.5.5.1))
      | inr u ↦
          let p = u.0 in
          let array = array_wide p.0 p.1 (p.2 ++ entries) p.4 in
          let whole : a.0 ++ entries ≡ p.1 ++ (p.2 ++ entries) = ap (λ u. u ++ entries) p.3 ∙ append_assoc p.1 p.2 entries in
          let no_table = no_table_here (a.0 ++ entries) (ap (encoding_table Comments).read whole ∙ array_no_table p.0 p.1 (p.2 ++ entries) array) in
          let no_word = no_word_here (a.0 ++ entries) (ap (encoding_word wide).read whole ∙ array_no_word p.0 p.1 (p.2 ++ entries) array) in
          inr (inr ((p.0, p.1, p.2, p.3, array, p.5), no_table), no_word)
    ]
  ],
)

encoding_wide : (e : EncodingText) (bytes rest : List ℕ) → SpellsEncoding strict e bytes rest → SpellsEncoding wide e bytes rest
unfolding encoding_start
encoding_wide (OneWord w) bytes rest s =
    let a = word_start strict w bytes rest s in
    (a.0, a.1, inl (w, a.0, [], sym (append-nil a.0), word_wide w a.0 rest a.2, (refl, refl)))
encoding_wide (Puts puts) bytes rest (inl s) =
    let t = s.5 in
    let none = ap (encoding_loop Comments).read t.1 ∙ table_no_loop s.0 s.2 t.0 rest t.2 in
    let whole = table_wide (code_entry strict) (code_entry wide) (encoding_end White)
    (encoding_end Comments) (λ e text rest s. inl (put_wide e text rest s)) end_wide s.0 s.2 t.0 rest t.2 in
    inl (s.0, s.1, s.2, s.3, puts_start bytes s.1 s.4 none, (t.0, t.1, whole))
encoding_wide (Puts puts) bytes rest (inr s) =
    let t = s.5 in
    let whole = table_wide (next_name White) (next_name Comments) (array_end White) (array_end Comments) next_name_wide array_end_wide s.0 s.2 t.0 rest t.2.1 in
    inr (s.0, s.1, s.2, s.3, names_start bytes s.1 s.4, (t.0, t.1, (t.2.0, whole)))

-- ---- the whole

clear_wide : (clear : List ℕ) (c : ClearPieces) → IsClear strict clear c → IsClear wide clear c
clear_wide clear c s = record { after = s.after; marker = s.marker; encoding = encoding_wide c.encoding s.after c.clear_tail s.encoding }

tables_wide : (text : List ℕ) (p : PrivatePieces) (o : Option SubrsPieces) (glyphs : List ℕ) → SpellsTables White text p o glyphs →
    SpellsTables Comments text p o glyphs
tables_wide text p None glyphs s = s
tables_wide text p (Some x) glyphs s =
    let t = s.3 in
    let whole = table_wide (subr White x.declared p.len_iv) (subr Comments x.declared p.len_iv)
    (subrs_end White) (subrs_end Comments) (subr_wide x.declared p.len_iv) subrs_end_wide x.entries x.closing t.0 s.1 t.2 in
    (s.0, s.1, s.2, (t.0, t.1, whole), s.4)

private_wide : (text : List ℕ) (p : PrivatePieces) → IsPrivate White text p → IsPrivate Comments text p
private_wide text p s =
    let g = s.before in
    let tables : HasTables Comments text p g.start = record { tables = tables_wide text p p.subrs g.start g.tables.tables; len_iv = g.tables.len_iv } in
    let before : HasGlyphs Comments text p s.after = record { start = g.start; closing = g.closing; tables = tables; glyphs = g.glyphs } in
    record { after = s.after; front = s.front; own = s.own; rest = s.rest; before = before; close = s.close; tail = s.tail; single = s.single }

-- a file that spells a font spells the same font widely
pub spells_widely : (file : List ℕ) (font : FontValue) → Spells file font → SpellsWidely file font
spells_widely file font s =
    let h = s.pieces in
    let pieces : HasPieces wide file s.outside s.inside =
    record {
      clear = h.clear;
      text = h.text;
      texts = h.texts;
      clear_is = clear_wide h.clear s.outside h.clear_is;
      private_is = private_wide h.text s.inside h.private_is;
    } in
    record { outside = s.outside; inside = s.inside; pieces = pieces; value = s.value; has_notdef = s.has_notdef; within = s.within }
