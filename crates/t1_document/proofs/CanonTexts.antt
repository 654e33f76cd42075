-- The canonical text of a font is a font text.
use Rattle.std.proofs.Common.{◌≡◌, ℕ, ◌-◌, ◌≤◌, ◌<◌, Bool, true, false, cond, List, [], ◌∷◌, ◌++◌, length, drop, Option, Some, None, Ok, refl, sym, ap, subst, ◌∙◌, arith, append_assoc}
use Rattle.std.proofs.{Math.Bool.{and-true}, lemmas.Bool.{lt-ltb}, lemmas.List.{append-nil, length-append, get_or_at}, lemmas.Option.{none-some, same_Some}, lemmas.Slice.Eq.{bytes_eq-Decides}}
use Rattle.std.specs.{Prelude.{codes, ◌==◌, ◌&&◌, not}, Option.{option_and_then, option_map}, Str.{bytes_eq}}
use Rattle.t1_grammar.{specs.{Grammar.{Grammar, ◌>>◌, that, fixed, first, first_at}, Places.{prepend}}, proofs.Grammars.{bind_read, that_read}}
use Rattle.t1_bytes.specs.{declared.form.Form.TheVariants.{Pfa}, Cipher.{private_cipher}, FlatText.{starts_segment}, Eexec.{eexec_marker, hex_text}, Texts.{hex_lines, zero_lines}, Limits.{file_limit}}
use Rattle.t1_bytes.proofs.HexLines.{zeros, hex_run}
use Rattle.t1_font.specs.{FontValue.{FontValue}, IsFont.{IsFont}, Canon.{encoding_pieces, canon_clear, canon_private, canon}, Writing.{encoding_text}, ReadFont.{read_font, read_font_widely}}
use Rattle.t1_text.specs.{Tags.{name_in}, Dialect.{strict, wide}}
use Rattle.t1_font.proofs.{Spelled.{reads, reads_again}, Widely.{spells_widely}, canonical.LengthLemmas.{canon_short}, canonical.SplitWritten.{free_none}}
use Rattle.t1_text.proofs.Moves.{past_none}
use Rattle.t1_font.proofs.canonical.RoundTrip.{run_before, marker_ends, digits_behind, read_before}
use Rattle.t1_document.specs.{Fonts.{ends_with_c, font_shape, if_any, name_read, spelled_name, FontText, if_font, font_in, canon_text}, Marks.{has_mark}, Documents.{Place}}
use Rattle.t1_document.specs.{Rewriting.{is_font, can_stand}, Laws.{HasHead}}
use Rattle.t1_document.proofs.{Rewritten.{same_bytes}, FontLemmas.{ShapeLeaves, parted_is, left_is, font_in_is}}

-- the word behind the digits, and what follows
abbrev word_and : List ℕ → List ℕ
word_and rest = codes "leartomark" ++ rest

-- ---- its bytes

regroup : (a b c d e : List ℕ) → (a ++ (b ++ (c ++ d))) ++ e ≡ a ++ ((b ++ c) ++ (d ++ e))
regroup a b c d e = simp append_assoc

-- they are the clear text, the digits through the `c`, and the rest of the word
regrouped : (f : FontValue) (rest : List ℕ) → canon_text f ++ rest ≡ canon_clear f ++ run_before f (word_and rest)
regrouped f rest =
    let lines = hex_lines (private_cipher (canon_private f)) in
    let word : zero_lines 8 ++ codes "cleartomark" ≡ zeros ++ codes "leartomark" = refl in
    ap (λ (t : List ℕ). (canon_clear f ++ (lines ++ t)) ++ rest) word ∙ regroup (canon_clear f) lines zeros (codes "leartomark") rest

-- with the line end they are the font's PFA
pub canon_text_is : (f : FontValue) → canon f Pfa ≡ canon_text f ++ 10 ∷ []
canon_text_is f = sym (append_assoc (canon_clear f) (hex_lines (private_cipher (canon_private f)) ++ (zero_lines 8 ++ codes "cleartomark")) (10 ∷ [])
    ∙ ap (λ (t : List ℕ). canon_clear f ++ t)
    (append_assoc (hex_lines (private_cipher (canon_private f))) (zero_lines 8 ++ codes "cleartomark") (10 ∷ [])
    ∙ ap (λ (t : List ℕ). hex_lines (private_cipher (canon_private f)) ++ t) (append_assoc (zero_lines 8) (codes "cleartomark") (10 ∷ []))))

run_ends : (f : FontValue) → ends_with_c (hex_run (private_cipher (canon_private f))) ≡ true
run_ends f =
    let front : List ℕ = hex_lines (private_cipher (canon_private f)) ++ zero_lines 8 in
    let whole : hex_run (private_cipher (canon_private f)) ≡ front ++ 99 ∷ [] =
    sym (append_assoc (hex_lines (private_cipher (canon_private f))) (zero_lines 8) (99 ∷ [])) in
    let size : length front ≡ length (front ++ 99 ∷ []) - 1 = omega (arith, length-append front (99 ∷ [])) in
    ap ends_with_c whole ∙ ap (λ (b : ℕ). b == 99) (get_or_at front 99 [] 0 (length (front ++ 99 ∷ []) - 1) size)

-- ---- it is read

strictly_read : (f : FontValue) → IsFont f → starts_segment (canon_text f) ≡ false → read_font (canon_text f) ≡ Ok f
strictly_read f h plain =
    let e : canon_text f ≡ canon_clear f ++ run_before f (codes "leartomark") =
    sym (append-nil (canon_text f)) ∙ regrouped f [] in
    let short : length (canon_text f) ≤ file_limit =
    omega (arith, canon_short f Pfa h, ap length (canon_text_is f), length-append (canon_text f) (10 ∷ [])) in
    ap read_font e ∙ read_before f (codes "leartomark") h refl (ap starts_segment (sym e) ∙ plain) (subst (λ (t : List ℕ). length t ≤ file_limit) e short)

-- unless it would be taken for a PFB, it spells the font
pub canon_read : (f : FontValue) → IsFont f → starts_segment (canon_text f) ≡ false → read_font_widely (canon_text f) ≡ Ok f
canon_read f h plain =
    reads_again wide (canon_text f) f (spells_widely (canon_text f) f (reads strict (canon_text f) f (strictly_read f h plain)))

-- ---- its shape

fixed_read : (w rest : List ℕ) → (fixed w).read (w ++ rest) ≡ Some (w, rest)
fixed_read w rest = (fixed w).again w w rest ((refl, refl), (bytes_eq-Decides w w).1 refl)

prepended_some : {A : Type 0} (front : List ℕ) (o : Option ((List ℕ × A) × List ℕ)) (x : (List ℕ × A) × List ℕ) → prepend front o ≡ Some x →
    (y : List ℕ × A) × (o ≡ Some (y, x.1))
prepended_some front None x e = absurd (none-some x e)
prepended_some {A} front (Some y) x e =
    (y.0, ap (λ (r : List ℕ). Some (y.0, r)) (ap (λ (z : (List ℕ × A) × List ℕ). z.1) (same_Some ((front ++ y.0.0, y.0.1), y.1) x e)))

module _ (f : FontValue) (inner : List ℕ) (h : IsFont f) (starts : f.shell.head ≡ codes "%!" ++ inner) where
  -- what stands behind the first two bytes
  behind_sign : (v : List ℕ) → (after : List ℕ) × (canon_clear f ++ v ≡ codes "%!" ++ after)
  behind_sign v =
      let tail : List ℕ = encoding_text (encoding_pieces f.encoding) ++ (f.shell.clear_tail ++ 10 ∷ []) in (
        inner ++ (tail ++ v),
        ap (λ (head : List ℕ). (head ++ tail) ++ v) starts
            ∙ (append_assoc (codes "%!" ++ inner) tail v ∙ append_assoc (codes "%!") inner (tail ++ v)),
      )

  shape_reads : (rest : List ℕ) → font_shape.read (canon_text f ++ rest) ≡ Some (codes "leartomark", rest)
  unfolding font_shape
  shape_reads rest =
      let v = run_before f (word_and rest) in
      let sign = behind_sign v in
      let marker = marker_ends f (word_and rest) h in
      let found : (y : List ℕ × List ℕ) × (first_at eexec_marker sign.0 ≡ Some (y, marker.0.1)) =
      prepended_some (codes "%!") (first_at eexec_marker sign.0) marker.0
      (sym (past_none eexec_marker (codes "%!") sign.0 (free_none (codes "%!") sign.0 refl)) ∙ (ap (first_at eexec_marker) (sym sign.1) ∙ marker.1)) in
      let at_marker : first_at eexec_marker sign.0 ≡ Some (found.0, 10 ∷ v) = found.1 ∙ ap (λ (r : List ℕ). Some (found.0, r)) marker.2 in
      let word : Grammar (List ℕ) = fixed (codes "leartomark") in
      ap font_shape.read (regrouped f rest ∙ sign.1)
      ∙ bind_read (fixed (codes "%!")) (λ _. first eexec_marker >> (that ends_with_c hex_text >> word)) (codes "%!" ++ sign.0) (codes "%!") sign.0 _
      (fixed_read (codes "%!") sign.0)
      (bind_read (first eexec_marker) (λ _. that ends_with_c hex_text >> word) sign.0 found.0 (10 ∷ v) _ at_marker
      (bind_read (that ends_with_c hex_text) (λ _. word) (10 ∷ v) (hex_run (private_cipher (canon_private f))) (word_and rest) _
      (that_read ends_with_c hex_text (10 ∷ v) (hex_run (private_cipher (canon_private f))) (word_and rest)
      (digits_behind f (word_and rest) h refl) (run_ends f))
      (fixed_read (codes "leartomark") rest)))

  -- ---- its font

  plain_text : starts_segment (canon_text f) ≡ false
  plain_text = ap starts_segment (sym (append-nil (canon_text f)) ∙ (regrouped f [] ∙ (behind_sign (run_before f (word_and []))).1))

  text_named : (name : List ℕ) → name_in f.shell.head ≡ Some name → 0 < length name → spelled_name (canon_text f) ≡ Some name
  unfolding spelled_name
  text_named name named some =
      ap name_read (canon_read f h plain_text) ∙ (ap (option_and_then if_any) named ∙ ap (λ (b : Bool). cond b (Some name) None) (lt-ltb 0 (length name) some))

  -- it is a font text, whatever follows
  pub canon_is_font_text : (name rest : List ℕ) → name_in f.shell.head ≡ Some name → 0 < length name →
      font_in (canon_text f ++ rest) ≡ Some (record { name = name; text = canon_text f; rest = rest })
  canon_is_font_text name rest named some =
      let bytes = canon_text f ++ rest in
      let leaves : ShapeLeaves bytes rest = ap (option_map (λ (x : List ℕ × List ℕ). x.1)) (shape_reads rest) in
      font_in_is bytes rest leaves
      ∙ (ap (λ (t : List ℕ). if_font (t, drop (length bytes - length rest) bytes)) (parted_is bytes (canon_text f) rest refl)
      ∙ (ap (λ (r : List ℕ). if_font (canon_text f, r)) (left_is bytes (canon_text f) rest refl)
      ∙ ap (option_map (λ (n : List ℕ). record { name = n; text = canon_text f; rest = rest })) (text_named name named some)))

-- ---- where it can stand

-- the canonical text of a font with such a head is found at the front of bytes
pub canon_found : (f : FontValue) (name rest : List ℕ) → IsFont f → HasHead f name →
    font_in (canon_text f ++ rest) ≡ Some (record { name = name; text = canon_text f; rest = rest })
canon_found f name rest h head = canon_is_font_text f head.inner h head.starts name rest head.named head.some

-- at each place of its name where it brings no mark
pub canon_stands : (f : FontValue) (p : Place) → IsFont f → HasHead f p.name → can_stand (canon_text f) p ≡ not (has_mark (canon_text f ++ p.rest))
canon_stands f p h head =
    let text = canon_text f in
    let free = not (has_mark (text ++ p.rest)) in
    ap (λ (o : Option FontText). free && is_font p.name text p.rest o) (canon_found f p.name p.rest h head)
    ∙ (ap (λ (b : Bool). free && (b && bytes_eq text text && bytes_eq p.rest p.rest)) (same_bytes p.name)
    ∙ (ap (λ (b : Bool). free && (true && b && bytes_eq p.rest p.rest)) (same_bytes text)
    ∙ (ap (λ (b : Bool). free && (true && true && b)) (same_bytes p.rest) ∙ and-true free)))
