-- Font texts: where they stand, how they begin and end, and the head of their font.
use Rattle.std.proofs.Common.{◌≡◌, ℕ, ◌-◌, ◌≤◌, false, List, [], ◌∷◌, ◌++◌, length, take, drop, Option, Some, None, Result, Ok, refl, sym, ap, subst, ◌∙◌, arith, append_assoc}
use Rattle.std.proofs.{lemmas.List.{length-append, take-append-drop, take_at, drop_at}, lemmas.Option.{none-some, same_Some, option_and_then_some}, lemmas.Slice.Eq.{bytes_eq-Decides}}
use Rattle.std.specs.{Prelude.{codes}, Option.{option_and_then, option_map}}
use Rattle.t1_grammar.specs.Grammar.{fixed}
use Rattle.t1_bytes.{specs.FlatText.{starts_segment}, proofs.FlatTexts.{said_flat}}
use Rattle.t1_font.specs.{declared.fault.ReadFault.{ReadFault}, declared.fault.ReadFault.TheVariants.{Memory}, Answers.{Refused}, FontValue.{FontValue}, ReadFont.{read_font_widely}}
use Rattle.t1_text.specs.Tags.{name_in}
use Rattle.t1_font.specs.Spelling.{SpellsWidely}
use Rattle.t1_document.specs.Fonts.{font_shape, parted_at, if_any, name_read, spelled_name, is_memory, name_within, if_font, font_in, FontText}
use Rattle.t1_bytes.specs.FlatText as files

-- ---- the shape

-- these bytes are what spells a fixed text
pub fixed_is : (w a text rest : List ℕ) → (fixed w).Spells a text rest → text ≡ w
fixed_is w a text rest s = s.0.0 ∙ sym ((bytes_eq-Decides w a).0 s.1)

-- a text of the shape at the front of bytes: it begins with `%` and ends with `leartomark`
pub record Shaped (bytes : List ℕ) (rest : List ℕ) : Type 0 where
  pub own : List ℕ
  pub whole : bytes ≡ own ++ rest
  pub inner : List ℕ
  pub starts : own ≡ 37 ∷ inner
  pub front : List ℕ
  pub ends : own ≡ front ++ codes "leartomark"

-- what is read has the shape
pub shaped : (bytes : List ℕ) (x : List ℕ × List ℕ) → font_shape.read bytes ≡ Some x → Shaped bytes x.1
unfolding font_shape
shaped bytes x e =
    let s = font_shape.takes bytes x e in
    let own = s.0 in
    let t = s.2 in
    let sign : t.1 ≡ codes "%!" = fixed_is (codes "%!") t.0 t.1 (t.2 ++ x.1) t.4 in
    let u = t.5 in
    let v = u.5 in
    let word : v.2 ≡ codes "leartomark" = fixed_is (codes "leartomark") x.0 v.2 x.1 v.5 in
    let parts : own ≡ t.1 ++ (u.1 ++ (v.1 ++ v.2)) = t.3 ∙ (ap (λ (y : List ℕ). t.1 ++ y) (u.3 ∙ ap (λ (y : List ℕ). u.1 ++ y) v.3)) in
    record {
      own = own;
      whole = s.1;
      inner = 33 ∷ t.2;
      starts = t.3 ∙ ap (λ (y : List ℕ). y ++ t.2) sign;
      front = t.1 ++ (u.1 ++ v.1);
      ends = parts ∙ (ap (λ (y : List ℕ). t.1 ++ (u.1 ++ (v.1 ++ y))) word
          ∙ (ap (λ (y : List ℕ). t.1 ++ y) (sym (append_assoc u.1 v.1 (codes "leartomark"))) ∙ sym (append_assoc t.1 (u.1 ++ v.1) (codes "leartomark"))));
    }

-- the bytes before the rest are that text
pub parted_is : (bytes own rest : List ℕ) → bytes ≡ own ++ rest → take (length bytes - length rest) bytes ≡ own
parted_is bytes own rest e =
    let n : length bytes - length rest ≡ length own = omega (arith, ap length e, length-append own rest) in
    ap (λ (k : ℕ). take k bytes) n ∙ (ap (take (length own)) e ∙ take_at own rest (length own) refl)

-- and the bytes behind it are the rest
pub left_is : (bytes own rest : List ℕ) → bytes ≡ own ++ rest → drop (length bytes - length rest) bytes ≡ rest
left_is bytes own rest e =
    let n : length bytes - length rest ≡ length own = omega (arith, ap length e, length-append own rest) in
    ap (λ (k : ℕ). drop k bytes) n ∙ (ap (drop (length own)) e ∙ drop_at own rest (length own) refl)

-- ---- the head

-- a text that is no PFB begins with the head of the font that it spells
pub head_first : (text : List ℕ) (font : FontValue) → starts_segment text ≡ false → SpellsWidely text font →
    (behind : List ℕ) × (text ≡ font.shell.head ++ behind)
head_first text font plain s =
    let texts = s.pieces.texts in
    let marker = s.pieces.clear_is.marker in
    let flat : text ≡ texts.flat = subst (λ b. (files.flat_when b text).Spells texts.flat) plain (said_flat text texts.flat texts.flat_is) in
    let head = s.outside.head in
    let clear : s.pieces.clear ≡ head ++ (marker.2.0 ++ s.pieces.clear_is.after) =
    marker.1 ∙ (ap (λ (u : List ℕ). u ++ s.pieces.clear_is.after) marker.2.1 ∙ append_assoc head marker.2.0 s.pieces.clear_is.after) in
    let whole : text ≡ s.pieces.clear ++ drop texts.at text =
    sym (take-append-drop texts.at text) ∙ ap (λ (u : List ℕ). u ++ drop texts.at text) (ap (take texts.at) flat ∙ sym texts.clear_is) in
    let own = marker.2.0 ++ s.pieces.clear_is.after in (
      own ++ drop texts.at text,
      whole ∙ (ap (λ (u : List ℕ). u ++ drop texts.at text) clear ∙ (append_assoc head own (drop texts.at text)
          ∙ ap (λ (f : FontValue). f.shell.head ++ (own ++ drop texts.at text)) (sym s.value))),
    )

-- a text that is refused, not for want of memory, spells no font
pub refused_name : (fault : ReadFault) (r : Result FontValue ReadFault) → is_memory fault ≡ false → Refused fault r → name_read r ≡ None
refused_name Memory r h e = absurd cc
refused_name fault r h e = ap name_read e

-- the name behind the head of the font that a text spells
pub name_found : (text : List ℕ) (font : FontValue) (n : ℕ) → starts_segment text ≡ false → SpellsWidely text font → read_font_widely text ≡ Ok font →
    n ≡ length font.shell.head → name_within text (Some n) ≡ spelled_name text
unfolding spelled_name
name_found text font n plain s e len =
    let found = head_first text font plain s in
    let head : take n text ≡ font.shell.head =
    ap (λ (k : ℕ). take k text) len ∙ (ap (take (length font.shell.head)) found.1 ∙ take_at font.shell.head found.0 _ refl) in
    ap (λ (t : List ℕ). option_and_then if_any (name_in t)) head ∙ ap name_read (sym e)

-- that head is within the text
pub head_within : (text : List ℕ) (font : FontValue) (n : ℕ) → starts_segment text ≡ false → SpellsWidely text font → n ≡ length font.shell.head →
    n ≤ length text
head_within text font n plain s len =
    let found = head_first text font plain s in
    omega (arith, ap length found.1, length-append font.shell.head found.0)

-- ---- the font text that bytes begin with

found_rest : {A : Type 0} (o : Option (A × List ℕ)) (rest : List ℕ) → option_map (λ (x : A × List ℕ). x.1) o ≡ Some rest → (a : A) × (o ≡ Some (a, rest))
found_rest None rest e = absurd (none-some rest e)
found_rest {A} (Some x) rest e = (x.0, ap (λ (r : List ℕ). Some (x.0, r)) (same_Some x.1 rest e))

-- the shape is read, and this is left
abbrev pub ShapeLeaves : List ℕ → List ℕ → Type 0
ShapeLeaves bytes rest = option_map (λ (x : List ℕ × List ℕ). x.1) (font_shape.read bytes) ≡ Some rest

shape_of : (bytes rest : List ℕ) → ShapeLeaves bytes rest → Shaped bytes rest
shape_of bytes rest e = let found = found_rest (font_shape.read bytes) rest e in shaped bytes (found.0, rest) found.1

-- what is left is no longer than the bytes
pub left_within : (bytes rest : List ℕ) → ShapeLeaves bytes rest → length rest ≤ length bytes
left_within bytes rest e = let s = shape_of bytes rest e in omega (arith, ap length s.whole, length-append s.own rest)

-- a text of the shape is no PFB
pub shape_plain : (bytes rest : List ℕ) → ShapeLeaves bytes rest → starts_segment (take (length bytes - length rest) bytes) ≡ false
shape_plain bytes rest e =
    let s = shape_of bytes rest e in
    ap starts_segment (parted_is bytes s.own rest s.whole ∙ s.starts)

-- what is found in bytes that begin with the shape is made of the text before what is left
pub font_in_is : (bytes rest : List ℕ) → ShapeLeaves bytes rest →
    font_in bytes ≡ if_font (take (length bytes - length rest) bytes, drop (length bytes - length rest) bytes)
unfolding font_in
font_in_is bytes rest e =
    let found = found_rest (font_shape.read bytes) rest e in
    let s = shaped bytes (found.0, rest) found.1 in
    ap (option_and_then (λ x. if_font (parted_at bytes x))) found.1
    ∙ ap (λ (r : List ℕ). if_font (take (length bytes - length rest) bytes, r)) (sym (left_is bytes s.own rest s.whole))

-- what is known of a font text that bytes begin with
pub record Stands (bytes : List ℕ) (f : FontText) : Type 0 where
  pub whole : bytes ≡ f.text ++ f.rest
  pub inner : List ℕ
  pub starts : f.text ≡ 37 ∷ inner
  pub front : List ℕ
  pub ends : f.text ≡ front ++ codes "leartomark"
  pub name : spelled_name f.text ≡ Some f.name

named_font : (x : List ℕ × List ℕ) (f : FontText) → if_font x ≡ Some f → (x ≡ (f.text, f.rest)) × (spelled_name x.0 ≡ Some f.name)
named_font x f e = by_name (spelled_name x.0) refl e
  where
    by_name : (o : Option (List ℕ)) → spelled_name x.0 ≡ o → option_map (λ name. record { name = name; text = x.0; rest = x.1 }) o ≡ Some f →
        (x ≡ (f.text, f.rest)) × (spelled_name x.0 ≡ Some f.name)
    by_name None h k = absurd (none-some f k)
    by_name (Some name) h k =
        let same : ◌≡◌ {A = FontText} (record { name = name; text = x.0; rest = x.1 }) f = same_Some (record { name = name; text = x.0; rest = x.1 }) f k in
        (ap (λ (g : FontText). (g.text, g.rest)) same, h ∙ ap (λ (g : FontText). Some g.name) same)

-- what is found is so
pub font_stands : (bytes : List ℕ) (f : FontText) → font_in bytes ≡ Some f → Stands bytes f
unfolding font_in
font_stands bytes f e = option_and_then_some (λ x. if_font (parted_at bytes x)) (font_shape.read bytes) f e (λ x h k.
    let s = shaped bytes x h in
    let named = named_font (parted_at bytes x) f k in
    let own : f.text ≡ s.own = sym (ap (λ (y : List ℕ × List ℕ). y.0) named.0) ∙ parted_is bytes s.own x.1 s.whole in
    let left : x.1 ≡ f.rest = ap (λ (y : List ℕ × List ℕ). y.1) named.0 in
    record {
      whole = s.whole ∙ (ap (λ (r : List ℕ). s.own ++ r) left ∙ ap (λ (u : List ℕ). u ++ f.rest) (sym own));
      inner = s.inner;
      starts = own ∙ s.starts;
      front = s.front;
      ends = own ∙ s.ends;
      name = subst (λ (t : List ℕ). spelled_name t ≡ Some f.name) (ap (λ (y : List ℕ × List ℕ). y.0) named.0) named.1;
    })

-- nothing begins with a font text
pub no_font : font_in [] ≡ None
unfolding font_in font_shape
no_font = refl
