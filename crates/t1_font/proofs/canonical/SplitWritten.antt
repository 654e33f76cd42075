-- The clear text ends where it was written to end.
use Rattle.std.proofs.Common.{◌≡◌, ℕ, ◌≤◌, ◌<◌, ◌^◌, inl, inr, ◌⊎◌, Bool, true, false, leb, ◌||◌, eqb, ◌&&◌, cond, List, [], ◌∷◌, ◌++◌, length, take, ◌-◌, one-add, Option, Some, None, Ok, refl, sym}
use Rattle.std.proofs.{Common.{ap, subst, ◌∙◌, append_assoc, arith}, lemmas.Option.{none-some, same_Some}, lemmas.Bool.{cases_Bool, leb-true, and_parts, or_parts, not-true, ne_eqb}}
use Rattle.std.specs.{Prelude.{codes}, Fmt.{decimal as digits}, List.{AllByRecursion}, Option.{option_map, option_and_then}}
use Rattle.t1_grammar.specs.{Grammar.{Grammar, pure, ◌>>=◌, ◌>>◌, before, Stops, NoneIn, first, first_at, fixed, unspelled}, Places.{prepend}}
use Rattle.t1_bytes.specs.{White.{is_white, gap}, Eexec.{eexec_marker, blank_comes, cipher_text}, Split.{split}}
use Rattle.t1_font.specs.{Pieces.{EncodingText, OneWord, Puts, flat_pieces}, Writing.{puts_text, encoding_text}, IsFont.{IsCode}}
use Rattle.t1_text.specs.{Words.{is_regular, is_delimiter, is_digit}, FontWords.{NoMarker}}
use Rattle.t1_font.proofs.{FileParts.{before_last}, canonical.ClearWritten.{IsEncodingText}}
use Rattle.t1_text.proofs.{Written.{AllRegular, gap_one, digits_are}, Borders.{strip, fixed_strip}, Moves.{Foreign, eexec_within, eexec_moves, first_grows, past_none, NoneIn-append}}

-- the text w can't stand at the front of these bytes, whatever follows them
abbrev pub differs : List ℕ → List ℕ → Bool
differs [] bytes = false
differs (c ∷ w) [] = false
differs (c ∷ w) (b ∷ bs) = cond (eqb c b) (differs w bs) true

-- nor at any place of them
abbrev pub is_free : List ℕ → List ℕ → Bool
is_free w [] = true
is_free w (b ∷ bs) = differs w (b ∷ bs) && is_free w bs

differs_strip : (w bytes rest : List ℕ) → differs w bytes ≡ true → strip w (bytes ++ rest) ≡ None
differs_strip [] bytes rest h = absurd cc
differs_strip (c ∷ w) [] rest h = absurd cc
differs_strip (c ∷ w) (b ∷ bs) rest h = elim (cases_Bool (eqb c b)) [
  | inl t ↦ let k : differs w bs ≡ true = rw t at h in rw t (differs_strip w bs rest k)
  | inr t ↦ rw t refl
]

no_eexec : (bytes : List ℕ) → strip (codes "currentfile") bytes ≡ None → eexec_marker.read bytes ≡ None
unfolding eexec_marker
no_eexec bytes h = rw (fixed_strip (codes "currentfile") bytes, h) refl

-- no marker stands in a text without `currentfile`
pub free_none : (text after : List ℕ) → is_free (codes "currentfile") text ≡ true → NoneIn eexec_marker text after
free_none [] after h = tt
free_none (b ∷ text) after h =
    let both =
    and_parts (differs (codes "currentfile") (b ∷ text)) (is_free (codes "currentfile") text) h in (
      unspelled eexec_marker (b ∷ (text ++ after)) (no_eexec (b ∷ (text ++ after)) (differs_strip (codes "currentfile") (b ∷ text) after both.0)),
      free_none text after both.1,
    )

-- ---- a word and a blank

strip_word : (w : List ℕ) → AllByRecursion (λ c. eqb c 32 ≡ false) w → (t rest : List ℕ) → AllRegular t →
    (strip w (t ++ (32 ∷ rest)) ≡ None) ⊎ ((s : List ℕ) × AllRegular s × (strip w (t ++ (32 ∷ rest)) ≡ Some (s ++ (32 ∷ rest))))
strip_word [] h t rest a = inr (t, a, refl)
strip_word (c ∷ w) h [] rest a = inl (rw h.0 refl)
strip_word (c ∷ w) h (b ∷ t) rest a = elim (cases_Bool (eqb c b)) [
  | inl e ↦ rw e (strip_word w h.1 t rest a.1)
  | inr e ↦ inl (rw e refl)
]

regular_black : (b : ℕ) → is_regular b ≡ true → is_white b ≡ false
regular_black b h = (or_parts (is_white b) (is_delimiter b) (not-true (is_white b || is_delimiter b) h)).0

no_gap : (b : ℕ) (bs : List ℕ) → is_white b ≡ false → gap.read (b ∷ bs) ≡ None
unfolding gap
no_gap b bs h = rw h refl

-- what stands behind `currentfile` and the white space
abbrev second : List ℕ → List ℕ → Grammar (List ℕ)
second currentfile between = fixed (codes "eexec") >>= (λ eexec. before blank_comes >> pure (currentfile ++ between ++ eexec))

no_second : (currentfile s : List ℕ) (b : ℕ) (rest : List ℕ) → AllRegular s → is_white b ≡ false → eqb 101 b ≡ false →
    option_and_then (λ x. (second currentfile x.0).read x.1) (gap.read (s ++ (32 ∷ (b ∷ rest)))) ≡ None
no_second currentfile [] b rest a w e = rw (gap_one (b ∷ rest) w, fixed_strip (codes "eexec") (b ∷ rest), e) refl
no_second currentfile (c ∷ s) b rest a w e = rw (no_gap c (s ++ (32 ∷ (b ∷ rest))) (regular_black c a.0)) refl

-- no marker begins in a word, where neither white space nor `e` stands behind the blank behind it
no_marker_at : (t : List ℕ) (b : ℕ) (rest : List ℕ) → AllRegular t → is_white b ≡ false → eqb 101 b ≡ false → eexec_marker.read (t ++ (32 ∷ (b ∷ rest))) ≡ None
unfolding eexec_marker
no_marker_at t b rest a w e =
    elim (strip_word (codes "currentfile") (refl, (refl, (refl, (refl, (refl, (refl, (refl, (refl, (refl, (refl, (refl, tt))))))))))) t (b ∷ rest) a) [
      | inl n ↦ no_eexec (t ++ (32 ∷ (b ∷ rest))) n
      | inr s ↦ rw (fixed_strip (codes "currentfile") (t ++ (32 ∷ (b ∷ rest))), s.2) (no_second (codes "currentfile") s.0 b rest s.1 w e)
    ]

-- no marker stands in a word before a blank and a byte that doesn't begin `eexec`
pub word_none : (w : List ℕ) (b : ℕ) (rest : List ℕ) → AllRegular w → is_white b ≡ false → eqb 101 b ≡ false → NoneIn eexec_marker w (32 ∷ (b ∷ rest))
word_none [] b rest a w e = tt
word_none (c ∷ t) b rest a w e = (unspelled eexec_marker (c ∷ (t ++ (32 ∷ (b ∷ rest)))) (no_marker_at (c ∷ t) b rest a w e), word_none t b rest a.1 w e)

-- ---- the Encoding

digit_none : (w after : List ℕ) → AllByRecursion (λ b. is_digit b ≡ true) w → NoneIn eexec_marker w after
digit_none [] after h = tt
digit_none (b ∷ w) after h =
    let low : b ≤ 57 = leb-true b 57 (and_parts (leb 48 b) (leb b 57) h.0).1 in
    let other : eqb 99 b ≡ false = ne_eqb 99 b (λ e. omega arith) in
    (unspelled eexec_marker (b ∷ (w ++ after)) (no_eexec (b ∷ (w ++ after)) (rw other refl)), digit_none w after h.1)

-- no marker stands in digits
pub digits_none : (n : ℕ) (after : List ℕ) → n < 2 ^ 64 → NoneIn eexec_marker (digits n) after
digits_none n after h = digit_none (digits n) after (digits_are n h).made

-- no marker stands in the text of puts
puts_none : (es : List (ℕ × List ℕ)) (after : List ℕ) → AllByRecursion (λ e. IsCode e.0 e.1) es → NoneIn eexec_marker (puts_text es) after
puts_none [] after h = free_none (10 ∷ codes "readonly def") after refl
puts_none (e ∷ es) after h =
    let p : List ℕ = puts_text es in
    NoneIn-append eexec_marker (10 ∷ codes "dup ") (digits e.0 ++ (codes " /" ++ (e.1 ++ (codes " put" ++ p)))) after (free_none (10 ∷ codes "dup ") _ refl)
    (NoneIn-append eexec_marker (digits e.0) (codes " /" ++ (e.1 ++ (codes " put" ++ p))) after (digits_none e.0 _ (omega (arith, h.0.code)))
    (NoneIn-append eexec_marker (codes " /") (e.1 ++ (codes " put" ++ p)) after (free_none (codes " /") _ refl)
    (NoneIn-append eexec_marker e.1 (codes " put" ++ p) after (word_none e.1 112 _ h.0.name.regular refl refl)
    (NoneIn-append eexec_marker (codes " put") p after (free_none (codes " put") _ refl) (puts_none es after h.1)))))

-- no marker stands in the text of an Encoding
pub encoding_none : (encoding : EncodingText) (after : List ℕ) → IsEncodingText encoding → NoneIn eexec_marker (encoding_text encoding) after
encoding_none (OneWord w) after h =
    NoneIn-append eexec_marker (codes "/Encoding ") (w ++ codes " def") after (free_none (codes "/Encoding ") _ refl)
    (NoneIn-append eexec_marker w (codes " def") after (word_none w 100 _ h.regular refl refl) (free_none (codes " def") after refl))
encoding_none (Puts es) after h =
    NoneIn-append eexec_marker (codes "/Encoding 256 array" ++ (10 ∷ codes "0 1 255 {1 index exch /.notdef put} for")) (puts_text es) after
    (free_none (codes "/Encoding 256 array" ++ (10 ∷ codes "0 1 255 {1 index exch /.notdef put} for")) _ refl) (puts_none es after h)

-- ---- the split

-- what stands behind the clear text and its line end
pub record IsBorder (v : List ℕ) : Type 0 where
  pub white : Stops is_white v
  pub current : Foreign (codes "currentfile") v
  pub eexec : Foreign (codes "eexec") v
  pub blank : blank_comes v ≡ false

-- the clear text ends with its first marker
abbrev pub IsClearEnd : List ℕ → Type 0
IsClearEnd tail = option_map (λ x. x.1) ((first eexec_marker).read (tail ++ 10 ∷ [])) ≡ Some (10 ∷ [])

found_with : (o : Option ((List ℕ × List ℕ) × List ℕ)) (r : List ℕ) → option_map (λ x. x.1) o ≡ Some r →
    (x : (List ℕ × List ℕ) × List ℕ) × (o ≡ Some x) × (x.1 ≡ r)
found_with None r h = absurd (none-some r h)
found_with (Some x) r h = (x, refl, same_Some x.1 r h)

starts_slash : (encoding : EncodingText) → (r : List ℕ) × (encoding_text encoding ≡ 47 ∷ r)
starts_slash (OneWord w) = (_, refl)
starts_slash (Puts es) = (_, refl)

-- the first marker is found at the end of the clear text
pub eexec_found : (head : List ℕ) (encoding : EncodingText) (tail v : List ℕ) →
    NoMarker eexec_marker head → IsEncodingText encoding → IsClearEnd tail → IsBorder v
    → (x : (List ℕ × List ℕ) × List ℕ) × (first_at eexec_marker ((head ++ (encoding_text encoding ++ tail)) ++ (10 ∷ v)) ≡ Some x) × (x.1 ≡ 10 ∷ v)
eexec_found head encoding tail v none ok ends border =
    let f = found_with (first_at eexec_marker (tail ++ 10 ∷ [])) (10 ∷ []) ends in
    let e : List ℕ = encoding_text encoding in
    let slash = starts_slash encoding in
    let nil_foreign : Foreign (codes "currentfile") [] = (refl, (refl, (refl, (refl, (refl, (refl, (refl, (refl, (refl, (refl, (refl, tt))))))))))) in
    let nil_second : Foreign (codes "eexec") [] = (refl, (refl, (refl, (refl, (refl, tt))))) in
    let more : first_at eexec_marker ((tail ++ 10 ∷ []) ++ v) ≡ Some (f.0.0, f.0.1 ++ v) = first_grows eexec_marker v
    (eexec_within [] v tt border.white nil_foreign border.current nil_second border.eexec (sym border.blank)) (tail ++ 10 ∷ []) f.0 f.1 in
    let in_head : NoneIn eexec_marker head (e ++ ((tail ++ 10 ∷ []) ++ v)) = subst (λ (u : List ℕ). NoneIn eexec_marker head (u ++ ((tail ++ 10 ∷ []) ++ v)))
    (sym slash.1) (eexec_moves head [] (slash.0 ++ ((tail ++ 10 ∷ []) ++ v)) none) in
    let clear : first_at eexec_marker (head ++ (e ++ ((tail ++ 10 ∷ []) ++ v))) ≡ prepend head (prepend e (Some (f.0.0, f.0.1 ++ v))) =
    past_none eexec_marker head (e ++ ((tail ++ 10 ∷ []) ++ v)) in_head
    ∙ ap (prepend head) (past_none eexec_marker e ((tail ++ 10 ∷ []) ++ v) (encoding_none encoding _ ok) ∙ ap (prepend e) more) in
    let regrouped : (head ++ (e ++ tail)) ++ (10 ∷ v) ≡ head ++ (e ++ ((tail ++ 10 ∷ []) ++ v)) = simp append_assoc in
    (((head ++ (e ++ f.0.0.0), f.0.0.1), f.0.1 ++ v), ap (first_at eexec_marker) regrouped ∙ clear, ap (λ (u : List ℕ). u ++ v) f.2)

-- the line end before the cipher is skipped
line_skipped : (v : List ℕ) → cipher_text.read (10 ∷ v) ≡ cipher_text.read v
unfolding cipher_text
line_skipped v = rw one-add refl

-- a flat text is split where its first marker ends
pub split_again : (clear v cipher rest : List ℕ) (x : (List ℕ × List ℕ) × List ℕ) → first_at eexec_marker (clear ++ (10 ∷ v)) ≡ Some x →
    x.1 ≡ 10 ∷ v → cipher_text.read v ≡ Some (cipher, rest) → (flat_pieces (clear ++ (10 ∷ v))).read ≡ Ok (record { clear = clear; cipher = cipher })
unfolding flat_pieces split
split_again clear v cipher rest x e after c =
    let flat : List ℕ = clear ++ (10 ∷ v) in
    let same : take (length flat - length x.1) flat ≡ clear =
    before_last flat clear (10 ∷ v) _ refl (ap (λ (u : List ℕ). length flat - length u) (sym after)) in
    let secret : cipher_text.read x.1 ≡ Some (cipher, rest) = ap cipher_text.read after ∙ (line_skipped v ∙ c) in
    rw (e, secret, same) refl
