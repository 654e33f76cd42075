-- Each entry has bytes, and no close can be read where one stands: so a table has one reading.
use Rattle.std.proofs.{Common.{◌≡◌, ℕ, ◌<◌, Bool, true, false, true≢false, List, [], ◌∷◌, length, take, drop, Some, None, refl, sym, ap, ◌∙◌, arith, ◌++◌}, lemmas.Slice.Eq.{bytes_eq-Decides}}
use Rattle.std.proofs.{lemmas.Option.{cond_some, option_and_then_some}, lemmas.List.{length-append}}
use Rattle.std.specs.{Prelude.{codes}, List.{prefix_len}, Str.{bytes_eq}}
use Rattle.t1_grammar.specs.{Grammar.{Grammar, fixed, either}, TableLaws.{Eats, Eats-spelled, Apart, eats_either, apart_either, apart_behind}}
use Rattle.t1_bytes.specs.White.{is_white, gap}
use Rattle.t1_text.specs.{declared.dialect.Spacing.{Spacing}, declared.dialect.Dialect.{Dialect}, declared.dialect.Spacing.TheVariants.{White}, Dialect.{white_in}}
use Rattle.t1_text.specs.Words.{is_regular, word, keyword, name, phrase_of, passes, next_name}
use Rattle.t1_text.specs.{Encoding.{put_entry, copy_start, one_copy, copied_range, copy_of_range, range_copy, entry_with, code_entry, encoding_end}, Entry.{Body, body, entry}}
use Rattle.t1_text.specs.{Subrs.{subr_key, subr, subrs_end}, Glyphs.{glyph, glyphs_end}}

-- what a keyword spells is its own text
pub keyword_text : (w a text rest : List ℕ) → (keyword w).Spells a text rest → text ≡ w
unfolding keyword
keyword_text w a text rest s = s.0.0 ∙ sym ((bytes_eq-Decides w a).0 s.1)

-- ---- charstrings by a key

gap_has : (a text rest : List ℕ) → gap.Spells a text rest → 0 < length text
unfolding gap
gap_has [] text rest s = absurd (true≢false (sym s.1))
gap_has (b ∷ bs) text rest s = omega (arith, ap length s.0.0)

body_has : (iv : ℕ) (b : Body) (text rest : List ℕ) → (body iv).Spells b text rest → 0 < length text
unfolding body
body_has iv b text rest s = omega (arith, ap length s.3, length-append s.1 s.2, gap_has s.0 s.1 _ s.4)

module _ {K : Type 0} (key : Grammar K) (iv : ℕ) where
  -- an entry has at least one byte
  pub entry_eats : Eats (entry key iv)
  unfolding entry
  entry_eats =
      Eats-spelled (entry key iv)
      (λ e text rest s. omega (arith, ap length s.3, length-append s.1 s.2, ap length s.5.3, length-append s.5.1 s.5.2, body_has iv s.5.0 s.5.1 _ s.5.4))

  -- where a key stands, the table does not end
  pub entry_apart : {B : Type 0} (close : Grammar B) → Apart key close → Apart (entry key iv) close
  unfolding entry
  entry_apart close apart bytes x e = option_and_then_some _ (key.read bytes) x e (λ y h k. apart bytes y h)

-- ---- Subrs

-- no phrase without `dup` begins with `dup`
no_phrase : (bytes : List ℕ) (x : List ℕ × List ℕ) → (keyword (codes "dup")).read bytes ≡ Some x → (phrase_of (passes false)).read bytes ≡ None
unfolding keyword phrase_of word
no_phrase bytes x e =
    let n = prefix_len is_regular bytes in
    let t = cond_some (bytes_eq (codes "dup") (take n bytes)) (take n bytes, drop n bytes) x e in
    let dup : take n bytes ≡ codes "dup" = sym ((bytes_eq-Decides (codes "dup") (take n bytes)).0 t.0) in
    rw dup refl

-- where a Subr begins, its table doesn't close
pub subr_key_apart : (d : Spacing) (declared : ℕ) → Apart (subr_key d declared) (subrs_end d)
unfolding subr_key subrs_end
subr_key_apart d declared bytes x e = apart_behind _ _ ((white_in d).read bytes) x e (λ r h.
    option_and_then_some _ ((keyword (codes "dup")).read r.1) x h (λ y k l. no_phrase r.1 y k))

-- a Subr has at least one byte
pub subr_eats : (d : Spacing) (declared iv : ℕ) → Eats (subr d declared iv)
subr_eats d declared iv = entry_eats (subr_key d declared) iv

-- where a Subr stands, its table doesn't close
pub subr_apart : (d : Spacing) (declared iv : ℕ) → Apart (subr d declared iv) (subrs_end d)
subr_apart d declared iv = entry_apart (subr_key d declared) iv (subrs_end d) (subr_key_apart d declared)

-- ---- the glyphs

-- a name begins with a slash
name_slash : (bytes : List ℕ) (x : List ℕ × List ℕ) → name.read bytes ≡ Some x → (rest : List ℕ) × (bytes ≡ 47 ∷ rest)
unfolding name
name_slash bytes x e = option_and_then_some _ ((fixed (codes "/")).read bytes) x e (λ y h k.
    let s = (fixed (codes "/")).takes bytes y h in
    let slash : codes "/" ≡ y.0 = (bytes_eq-Decides (codes "/") y.0).0 s.2.1 in
    (y.1, s.1 ∙ ap (λ (u : List ℕ). u ++ y.1) (s.2.0.0 ∙ sym slash)))

no_end : (rest : List ℕ) → (keyword (codes "end")).read (47 ∷ rest) ≡ None
unfolding keyword
no_end rest = refl

-- where a name comes, the table of glyphs doesn't close
pub next_name_apart : Apart (next_name White) glyphs_end
unfolding next_name glyphs_end
next_name_apart bytes x e = let s = name_slash (drop (prefix_len is_white bytes) bytes) x e in rw s.1 (no_end s.0)

-- a glyph has at least one byte
pub glyph_eats : (iv : ℕ) → Eats (glyph iv)
glyph_eats iv = entry_eats (next_name White) iv

-- where a glyph stands, its table doesn't close
pub glyph_apart : (iv : ℕ) → Apart (glyph iv) glyphs_end
glyph_apart iv = entry_apart (next_name White) iv glyphs_end next_name_apart

-- ---- codes

-- where `dup` stands, no closing word does
no_closing : (bytes : List ℕ) (x : List ℕ × List ℕ) → (keyword (codes "dup")).read bytes ≡ Some x →
    ((keyword (codes "readonly")).read bytes ≡ None) × ((keyword (codes "def")).read bytes ≡ None)
unfolding keyword
no_closing bytes x e =
    let n = prefix_len is_regular bytes in
    let t = cond_some (bytes_eq (codes "dup") (take n bytes)) (take n bytes, drop n bytes) x e in
    let dup : take n bytes ≡ codes "dup" = sym ((bytes_eq-Decides (codes "dup") (take n bytes)).0 t.0) in
    (rw dup refl, rw dup refl)

-- a put has bytes, and where it stands the Encoding doesn't close
put_laws : (d : Spacing) → Eats (put_entry d) × Apart (put_entry d) (encoding_end d)
unfolding put_entry encoding_end
put_laws d = (
  Eats-spelled (put_entry d) (λ a text rest s.
      let dup = keyword_text (codes "dup") s.5.0 s.5.1 _ s.5.4 in
      omega (arith, ap length s.3, length-append s.1 s.2, ap length s.5.3, length-append s.5.1 s.5.2, ap length dup)),
  λ bytes x e. apart_behind _ _ ((white_in d).read bytes) x e (λ r h.
      option_and_then_some _ ((keyword (codes "dup")).read r.1) x h (λ y k l. let none = no_closing r.1 y k in rw (none.0, none.1) refl)),
)

-- so is it with the start of a copy
start_has : (d : Spacing) (a text rest : List ℕ) → (copy_start d).Spells a text rest → 0 < length text
start_has d a text rest s =
    let dup = keyword_text (codes "dup") s.5.0 s.5.1 _ s.5.4 in
    omega (arith, ap length s.3, length-append s.1 s.2, ap length s.5.3, length-append s.5.1 s.5.2, ap length dup)

start_apart : (d : Spacing) → Apart (copy_start d) (encoding_end d)
unfolding encoding_end
start_apart d bytes x e = apart_behind _ _ ((white_in d).read bytes) x e (λ r h.
    option_and_then_some _ ((keyword (codes "dup")).read r.1) x h (λ y k l. let none = no_closing r.1 y k in rw (none.0, none.1) refl))

-- and with a copy
one_copy_laws : (d : Spacing) → Eats (one_copy d) × Apart (one_copy d) (encoding_end d)
unfolding one_copy
one_copy_laws d = (
  Eats-spelled (one_copy d) (λ a text rest s. omega (arith, ap length s.3, length-append s.1 s.2, start_has d s.0 s.1 _ s.4)),
  λ bytes x e. option_and_then_some _ ((copy_start d).read bytes) x e (λ y h k. start_apart d bytes y h),
)

range_copy_laws : (d : Spacing) → Eats (range_copy d) × Apart (range_copy d) (encoding_end d)
unfolding copied_range copy_of_range
range_copy_laws d = (
  Eats-spelled (range_copy d) (λ a text rest s.
      let t = s.0.4 in
      omega (arith, ap length s.0.3, length-append s.0.1 s.0.2, ap length t.3, length-append t.1 t.2, start_has d t.0 t.1 _ t.4)),
  λ bytes x e. option_and_then_some _ ((copy_of_range d).read bytes) x e (λ y h k.
      option_and_then_some _ ((copied_range d).read bytes) y h (λ z l m.
      option_and_then_some _ ((copy_start d).read bytes) z l (λ w n o. start_apart d bytes w n))),
)

eats_with : (copies : Bool) (s : Spacing) → Eats (entry_with copies s)
eats_with false s = (put_laws s).0
eats_with true s = eats_either (put_entry s) (either (one_copy s) (range_copy s)) (put_laws s).0
    (eats_either (one_copy s) (range_copy s) (one_copy_laws s).0 (range_copy_laws s).0)

apart_with : (copies : Bool) (s : Spacing) → Apart (entry_with copies s) (encoding_end s)
apart_with false s = (put_laws s).1
apart_with true s = apart_either (encoding_end s) (put_entry s) (either (one_copy s) (range_copy s)) (put_laws s).1
    (apart_either (encoding_end s) (one_copy s) (range_copy s) (one_copy_laws s).1 (range_copy_laws s).1)

-- an entry has at least one byte
pub code_entry_eats : (d : Dialect) → Eats (code_entry d)
code_entry_eats d = eats_with d.copies d.encoding

-- where an entry stands, the Encoding doesn't close
pub code_entry_apart : (d : Dialect) → Apart (code_entry d) (encoding_end d.encoding)
code_entry_apart d = apart_with d.copies d.encoding
