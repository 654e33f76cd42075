-- The clear text is read from its canonical text.
use Rattle.std.proofs.{Common.{◌≡◌, ℕ, ◌≤◌, List, [], ◌∷◌, ◌++◌, Some, None, Ok, refl, sym, ap, subst, ◌∙◌, append_assoc, arith}, lemmas.Bool.{le-leb}}
use Rattle.std.specs.{Prelude.{map, codes}, Fmt.{decimal as digits}, List.{AllByRecursion}}
use Rattle.t1_grammar.{specs.{Grammar.{either, Stops, first_at}, Tables.{with_front, table_at}, TableLaws.{table_at-step}}, proofs.Grammars.{that_read}}
use Rattle.t1_bytes.specs.White.{gap}
use Rattle.t1_text.specs.{declared.dialect.Spacing.TheVariants.{White}, Words.{is_regular, word, keyword, decimal}, Markers.{encoding_marker}}
use Rattle.t1_text.specs.Encoding.{encoding_word, encoding_table, encoding_loop, Whole, OpensPuts, encoding_start, octal, code, CodeEntry, Put, put_entry, code_entry, encoding_end}
use Rattle.t1_text.specs.{FontWords.{IsWord, NoMarker}, EntryLaws.{code_entry_eats, code_entry_apart}, Dialect.{strict}}
use Rattle.t1_font.specs.{Pieces.{EncodingText, OneWord, Puts, encoding_from, clear_pieces}, Writing.{puts_text, encoding_text}, IsFont.{IsCode}}
use Rattle.t1_font.proofs.Copies.{puts_plain}
use Rattle.t1_text.proofs.{Written.{gap_one, word_read, keyword_read, black, black_digits, decimal_read, no_white}, Moves.{first_behind, encoding_moves}}
use Rattle.t1_font.proofs.canonical.EntriesWritten.{fixed_read, name_read, is_word_of}

-- the marker of the Encoding is read from its text
pub encoding_marker_read : (rest : List ℕ) → encoding_marker.read (codes "/Encoding" ++ (32 ∷ rest)) ≡ Some (tt, 32 ∷ rest)
unfolding encoding_marker
encoding_marker_read rest = rw (fixed_read (codes "/Encoding") (32 ∷ rest)) refl

-- an Encoding that is a word is read from its text
pub encoding_word_read : (w rest : List ℕ) → IsWord 32 w → Stops is_regular rest →
    (encoding_word strict).read (32 ∷ (w ++ (codes " def" ++ rest))) ≡ Some (w, rest)
unfolding encoding_word
encoding_word_read w rest h s =
    let t : List ℕ = codes "def" ++ rest in
    rw (
      no_white (w ++ (32 ∷ t)) (black w (32 ∷ t) h.regular h.some),
      word_read w (32 ∷ t) h.regular (is_word_of w h) refl,
      gap_one t refl,
      keyword_read (codes "def") rest (refl, (refl, (refl, tt))) s,
    ) refl

no_word : (rest : List ℕ) → (encoding_word strict).read (codes " 256 array" ++ (10 ∷ rest)) ≡ None
unfolding encoding_word word gap keyword
no_word rest = refl

table_begins : (rest : List ℕ) → (encoding_table White).read (codes " 256 array" ++ (10 ∷ rest)) ≡ Some (codes "array", 10 ∷ rest)
unfolding encoding_table gap keyword
table_begins rest = refl

loop_read : (rest : List ℕ) →
    (encoding_loop White).read (10 ∷ (codes "0 1 255 {1 index exch /.notdef put} for" ++ (10 ∷ rest))) ≡ Some (codes "for", 10 ∷ rest)
unfolding encoding_loop gap keyword
loop_read rest = rw (
  fixed_read (codes "{") (codes "1 index exch /.notdef put} for" ++ (10 ∷ rest)),
  fixed_read (codes "/") (codes ".notdef put} for" ++ (10 ∷ rest)),
  fixed_read (codes "}") (codes " for" ++ (10 ∷ rest)),
) refl

-- ---- the puts

code_read : (c : ℕ) (rest : List ℕ) → c ≤ 255 → Stops is_regular rest → code.read (digits c ++ rest) ≡ Some (c, rest)
unfolding code
code_read c rest h s = that_read _ (either decimal octal) (digits c ++ rest) c rest (rw (decimal_read c rest (omega arith) s) refl) (le-leb c 255 h)

-- a put is read from its text
code_entry_read : (c : ℕ) (n rest : List ℕ) → IsCode c n → Stops is_regular rest →
    (put_entry White).read (10 ∷ (codes "dup " ++ (digits c ++ (codes " /" ++ (n ++ (codes " put" ++ rest)))))) ≡ Some (Put c n, rest)
unfolding put_entry
code_entry_read c n rest h s =
    let t4 : List ℕ = codes "put" ++ rest in
    let t3 : List ℕ = codes "/" ++ (n ++ (32 ∷ t4)) in
    let t1 : List ℕ = digits c ++ (32 ∷ t3) in
    rw (
      keyword_read (codes "dup") (32 ∷ t1) (refl, (refl, (refl, tt))) refl,
      gap_one t1 (black_digits c (32 ∷ t3) (omega (arith, h.code))),
      code_read c (32 ∷ t3) h.code refl,
      name_read n (32 ∷ t4) h.name refl,
      gap_one t4 refl,
      keyword_read (codes "put") rest (refl, (refl, (refl, tt))) s,
    ) refl

puts_line : (es : List (ℕ × List ℕ)) → (r : List ℕ) × (puts_text es ≡ 10 ∷ r)
puts_line [] = (_, refl)
puts_line (e ∷ es) = (_, refl)

-- the end of a table Encoding is read from its text
encoding_end_read : (rest : List ℕ) → Stops is_regular rest → (encoding_end White).read (10 ∷ (codes "readonly def" ++ rest)) ≡ Some (codes "def", rest)
unfolding encoding_end
encoding_end_read rest s =
    let t : List ℕ = codes "def" ++ rest in
    rw (
      keyword_read (codes "readonly") (32 ∷ t) (refl, (refl, (refl, (refl, (refl, (refl, (refl, (refl, tt)))))))) refl,
      gap_one t refl,
      keyword_read (codes "def") rest (refl, (refl, (refl, tt))) s,
    ) refl

abbrev put_of : ℕ × List ℕ → CodeEntry
put_of e = Put e.0 e.1

-- the puts of an Encoding are read from their text
pub puts_read : (es : List (ℕ × List ℕ)) (rest : List ℕ) → AllByRecursion (λ e. IsCode e.0 e.1) es → Stops is_regular rest →
    table_at (code_entry strict) (encoding_end White) (puts_text es ++ rest) ≡ Ok (map put_of es, codes "def", rest)
puts_read [] rest all s =
    rw (table_at-step (code_entry strict) (encoding_end White) (code_entry_eats strict) (10 ∷ (codes "readonly def" ++ rest)), encoding_end_read rest s) refl
puts_read (e ∷ es) rest all s =
    let others : List ℕ = puts_text es ++ rest in
    let line = puts_line es in
    let text : List ℕ = 10 ∷ (codes "dup " ++ (digits e.0 ++ (codes " /" ++ (e.1 ++ (codes " put" ++ others))))) in
    let regrouped : puts_text (e ∷ es) ++ rest ≡ text = simp append_assoc in
    let stops : Stops is_regular others = subst (λ (u : List ℕ). Stops is_regular (u ++ rest)) (sym line.1) refl in
    let here : (code_entry strict).read text ≡ Some (put_of e, others) = code_entry_read e.0 e.1 others all.0 stops in
    let one : table_at (code_entry strict) (encoding_end White) text ≡ with_front (put_of e ∷ []) (table_at (code_entry strict) (encoding_end White) others) =
    rw (table_at-step (code_entry strict) (encoding_end White) (code_entry_eats strict) text, (code_entry_apart strict) text (put_of e, others) here, here)
    refl in
    ap (table_at (code_entry strict) (encoding_end White)) regrouped ∙ (one ∙ ap (with_front (put_of e ∷ [])) (puts_read es rest all.1 s))

-- ---- the whole

-- a word or puts that can be written
abbrev pub IsEncodingText : EncodingText → Type 0
IsEncodingText (OneWord w) = IsWord 32 w
IsEncodingText (Puts es) = AllByRecursion (λ e. IsCode e.0 e.1) es

-- the canonical clear text, without the line end behind it
-- ---- the start of the Encoding

start_word : (w rest : List ℕ) → IsWord 32 w → Stops is_regular rest → (encoding_start strict).read (32 ∷ (w ++ (codes " def" ++ rest))) ≡ Some (Whole w, rest)
unfolding encoding_start
start_word w rest h s = rw (encoding_word_read w rest h s) refl

start_table : (rest : List ℕ) →
    (encoding_start strict).read (codes " 256 array" ++ (10 ∷ (codes "0 1 255 {1 index exch /.notdef put} for" ++ (10 ∷ rest)))) ≡ Some (OpensPuts, 10 ∷ rest)
unfolding encoding_start
start_table rest = rw (
  no_word (codes "0 1 255 {1 index exch /.notdef put} for" ++ (10 ∷ rest)),
  table_begins (codes "0 1 255 {1 index exch /.notdef put} for" ++ (10 ∷ rest)),
  loop_read rest,
) refl

-- the canonical clear text, without the line end behind it
pub clear_again : (head : List ℕ) (encoding : EncodingText) (tail : List ℕ) → NoMarker encoding_marker head → IsEncodingText encoding →
    Stops is_regular tail →
    (clear_pieces strict (head ++ (encoding_text encoding ++ tail))).read ≡ Ok (record { head = head; encoding = encoding; clear_tail = tail })
unfolding clear_pieces encoding_from
clear_again head (OneWord w) tail none h s =
    let t : List ℕ = w ++ (codes " def" ++ tail) in
    let regrouped : encoding_text (OneWord w) ++ tail ≡ codes "/Encoding" ++ (32 ∷ t) = simp append_assoc in
    let marker : first_at encoding_marker (head ++ (codes "/Encoding" ++ (32 ∷ t))) ≡ Some ((head, tt), 32 ∷ t) =
    first_behind encoding_marker head _ tt (32 ∷ t) (encoding_moves head [] _ none) (encoding_marker_read t) in
    rw (regrouped, marker, start_word w tail h s) refl
clear_again head (Puts es) tail none h s =
    let line = puts_line es in
    let p : List ℕ = puts_text es ++ tail in
    let t : List ℕ = codes "256 array" ++ (10 ∷ (codes "0 1 255 {1 index exch /.notdef put} for" ++ p)) in
    let shown : p ≡ 10 ∷ (line.0 ++ tail) = ap (λ (u : List ℕ). u ++ tail) line.1 in
    let start : (encoding_start strict).read (32 ∷ t) ≡ Some (OpensPuts, p) =
    subst (λ (u : List ℕ). (encoding_start strict).read (codes " 256 array" ++ (10 ∷ (codes "0 1 255 {1 index exch /.notdef put} for" ++ u)))
    ≡ Some (OpensPuts, u)) (sym shown) (start_table (line.0 ++ tail)) in
    let marker : first_at encoding_marker (head ++ (codes "/Encoding" ++ (32 ∷ t))) ≡ Some ((head, tt), 32 ∷ t) =
    first_behind encoding_marker head _ tt (32 ∷ t) (encoding_moves head [] _ none) (encoding_marker_read t) in
    rw (marker, start, puts_read es tail h s)
    (ap (λ (puts : List (ℕ × List ℕ)). Ok (record { head = head; encoding = Puts puts; clear_tail = tail })) (puts_plain [] es))
