-- A font with another box is a font.
use Rattle.std.{proofs.{Common.{◌≡◌, ℕ, Bool, true, false, cond, List, Option, Some, None, sym, ap, ◌∙◌}, lemmas.Bool.{cond-true, cond-false, and_parts, leb-true}}, specs.Prelude.{◌&&◌, nat_le}}
use Rattle.t1_bytes.specs.Laws.{AreBytes}
use Rattle.t1_font.specs.{declared.normal_texts.KeptText.TheVariants.{Head, ClearTail}, FontValue.{FontValue, Shell, SubrsShell, SparseArray, weight, weight_limit}}
use Rattle.t1_font.specs.{NormalTexts.{fits, same_both, both_fit, normal_clear}, IsFont.{IsFont, SubrsFit}}
use Rattle.t1_font.specs.FontBoxes.{Side, side_in, texts_at, texts_with, stays_at, clear_of, with_clear, clear_with, with_texts, can_take, can_have_at, can_have}
use Rattle.t1_text.specs.Boxes.{Box}
use Rattle.t1_font.proofs.normal_fonts.NormalTexts.{fits_so}

-- Subrs that fit a shell fit it with other clear texts
other_clear : (s : Shell) (x : List ℕ × List ℕ) (o : Option SubrsShell) (m : SparseArray) → SubrsFit s o m → SubrsFit (with_clear s x) o m
other_clear s x None m h = h
other_clear s x (Some t) m h = h

-- what was tested of two texts
pub record Taken (u : Box) (f : FontValue) (x : List ℕ × List ℕ) (s : Side) : Type 0 where
  pub fit : both_fit x ≡ true
  pub normal : same_both (normal_clear x) x ≡ true
  pub stays : stays_at u x s ≡ true
  pub light : nat_le (weight (with_texts f x)) weight_limit ≡ true

pub taken_so : (u : Box) (f : FontValue) (x : List ℕ × List ℕ) (s : Side) → can_take u f x s ≡ true → Taken u f x s
taken_so u f x s h =
    let light : Bool = nat_le (weight (with_texts f x)) weight_limit in
    let a = and_parts (both_fit x) (same_both (normal_clear x) x && (stays_at u x s && light)) h in
    let b = and_parts (same_both (normal_clear x) x) (stays_at u x s && light) a.1 in
    let c = and_parts (stays_at u x s) light b.1 in
    record { fit = a.0; normal = b.0; stays = c.0; light = c.1 }

-- a font with two texts that fit is a font, if it is within the weight limit
pub fitting_is_font : (f : FontValue) (x : List ℕ × List ℕ) → both_fit x ≡ true → nat_le (weight (with_texts f x)) weight_limit ≡ true →
    AreBytes x.0 → AreBytes x.1 → IsFont f → IsFont (with_texts f x)
fitting_is_font f x fits_both is_light head tail h =
    let fit = and_parts (fits Head x.0) (fits ClearTail x.1) fits_both in
    let first = fits_so Head x.0 fit.0 in
    let second = fits_so ClearTail x.1 fit.1 in
    let p = h.private in
    let g = h.glyphs in
    record {
      clear = record { head_encoding = first.0; head_eexec = first.1; tail_apart = second.0; tail_ends = second.1 };
      private = record {
        iv = p.iv;
        no_subrs = p.no_subrs;
        no_chars = p.no_chars;
        middle_apart = p.middle_apart;
        middle_chars = p.middle_chars;
        middle_subrs = p.middle_subrs;
        tail_apart = p.tail_apart;
        tail_subrs = p.tail_subrs;
        tail_ends = p.tail_ends;
      };
      texts = record { head = head; clear_tail = tail; private = h.texts.private; middle = h.texts.middle; tail = h.texts.tail };
      encoding = h.encoding;
      subrs = other_clear f.shell x f.shell.subrs f.subrs h.subrs;
      glyphs = record { rd = g.rd; def = g.def; names = g.names; bodies = g.bodies; notdef = g.notdef; few = g.few };
      light = leb-true (weight (with_texts f x)) weight_limit is_light;
    }

-- a font that can have two texts is a font with them
pub taken_is_font : (u : Box) (f : FontValue) (x : List ℕ × List ℕ) (s : Side) → can_take u f x s ≡ true → AreBytes x.0 → AreBytes x.1 →
    IsFont f → IsFont (with_texts f x)
taken_is_font u f x s t head tail h =
    let k = taken_so u f x s t in
    fitting_is_font f x k.fit k.light head tail h

-- ---- what the code answers

module _ (u : Box) (f : FontValue) where
  -- the two texts, where they pass the test
  abbrev answer : Option Side → Option (List ℕ × List ℕ)
  answer o = cond (can_have_at u f o) (Some (texts_with u (clear_of f.shell) o)) None

  pub answers_texts : (x y : List ℕ × List ℕ) (s : Side) → x ≡ clear_of f.shell → Some s ≡ side_in x → y ≡ texts_at u x s → can_take u f y s ≡ true →
      Some y ≡ cond (can_have u f) (Some (clear_with u f.shell)) None
  answers_texts x y s cx sx yx t =
      let z : y ≡ texts_at u (clear_of f.shell) s = yx ∙ ap (λ (v : List ℕ × List ℕ). texts_at u v s) cx in
      let k : can_take u f (texts_at u (clear_of f.shell) s) s ≡ true = ap (λ (v : List ℕ × List ℕ). can_take u f v s) (sym z) ∙ t in
      ap Some z ∙ (sym (cond-true _ (Some (texts_at u (clear_of f.shell) s)) None k) ∙ ap answer (sx ∙ ap side_in cx))

  pub answers_none : (x y : List ℕ × List ℕ) (s : Side) → x ≡ clear_of f.shell → Some s ≡ side_in x → y ≡ texts_at u x s → can_take u f y s ≡ false →
      None ≡ cond (can_have u f) (Some (clear_with u f.shell)) None
  answers_none x y s cx sx yx t =
      let z : y ≡ texts_at u (clear_of f.shell) s = yx ∙ ap (λ (v : List ℕ × List ℕ). texts_at u v s) cx in
      let k : can_take u f (texts_at u (clear_of f.shell) s) s ≡ false = ap (λ (v : List ℕ × List ℕ). can_take u f v s) (sym z) ∙ t in
      sym (cond-false _ (Some (texts_at u (clear_of f.shell) s)) None k) ∙ ap answer (sx ∙ ap side_in cx)

  -- a font with the texts that were answered is a font
  pub had_is_font : (o : Option Side) → side_in (clear_of f.shell) ≡ o → can_have_at u f o ≡ true →
      AreBytes (texts_with u (clear_of f.shell) o).0 → AreBytes (texts_with u (clear_of f.shell) o).1 → IsFont f →
      IsFont (with_texts f (texts_with u (clear_of f.shell) o))
  had_is_font None e t head tail h = absurd cc
  had_is_font (Some s) e t head tail h = taken_is_font u f (texts_at u (clear_of f.shell) s) s t head tail h
