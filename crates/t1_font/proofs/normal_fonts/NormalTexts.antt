-- Kept texts that are normalized stay when they are normalized again, and are again texts of a font, no longer than before.
use Rattle.std.proofs.{Common.{◌≡◌, ℕ, ◌≤◌, arith, Bool, true, false, cond, List, [], ◌∷◌, ◌++◌, length, Option, Some, None, Result, Ok, Err, refl, sym, ap, ◌∙◌, true≢false}, lemmas.Bool.{eqb-true}}
use Rattle.std.proofs.{lemmas.Option.{none-some}, lemmas.Slice.Eq.{bytes_eq-Decides}}
use Rattle.std.specs.{Prelude.{◌&&◌, not}, Option.{option_map, option_and_then}, Str.{bytes_eq}}
use Rattle.t1_grammar.specs.{Grammar.{Grammar, Stops, Lacks, first, first_at, choice}, Places.{occurs, absent_lacks}}
use Rattle.t1_bytes.specs.Eexec.{eexec_marker}
use Rattle.t1_font.specs.{declared.normal_texts.KeptText.{KeptText}, declared.normal_texts.KeptText.TheVariants.{Head, ClearTail, Private, Middle, Tail}, declared.fault.ReadFault.{ReadFault}}
use Rattle.t1_font.specs.{Pieces.{iv_of}, FontValue.{Shell, texts_weight}}
use Rattle.t1_text.specs.{Words.{is_regular, regular_comes}, Markers.{encoding_marker, subrs_marker, chars_marker, closefile}, FontTest.{eexec_there, has_marker}, FontWords.{NoMarker}}
use Rattle.t1_text.specs.{Squeezing.{squeezed_piece, squeezed}, Identity.{unnumbered_piece, unnumbered}, Tags.{tagged_name, untagged_piece, both_untagged}}
use Rattle.t1_font.specs.IsFont.{IsClearShell, IsPrivateShell, AreTexts}
use Rattle.t1_font.specs.NormalTexts.{is_left, ends_at, reads_number, own_fits, fits, taken, squeezed_text, normal_text, same_both, both_normal, without_tags, both_fit, normal_clear, normal_texts}
use Rattle.t1_font.specs.NormalizingLaws.{NormalTextsStay}
use Rattle.t1_text.proofs.{Untested.{both_true, not_true, neither, lacks_none, no_eexec}, RewritingLemmas.{Shrinks, pieces_shrink, squeezed_takes, unnumbered_takes, untagged_takes}}

-- ---- steps that are taken

cond_same : {A : Type 0} (b : Bool) (x y z : A) → x ≡ z → y ≡ z → cond b x y ≡ z
cond_same true x y z h k = h
cond_same false x y z h k = k

module _ {A : Type 0} (same : A → A → Bool) (so : (x y : A) → same x y ≡ true → x ≡ y) (good : A → Bool) (before step : A → A) where
  -- the step from what was done before
  abbrev next : A → A
  next y = cond (good (step y) && (same (before (step y)) (step y) && same (step (step y)) (step y))) (step y) y

  -- where what was done before stays, so does what the step makes of it
  pub taken_twice : ((x : A) → before (before x) ≡ before x) → (x : A) →
      taken same good before step (taken same good before step x) ≡ taken same good before step x
  taken_twice twice x = by_test (good z && (same (before z) z && same (step z) z)) refl
    where
      y : A
      y = before x

      z : A
      z = step y

      by_test : (b : Bool) → (good z && (same (before z) z && same (step z) z)) ≡ b → next (before (cond b z y)) ≡ cond b z y
      by_test true t =
          let stays = both_true (same (before z) z) (same (step z) z) (both_true (good z) (same (before z) z && same (step z) z) t).1 in
          let first : before z ≡ z = so (before z) z stays.0 in
          let second : step z ≡ z = so (step z) z stays.1 in
          ap next first ∙ cond_same _ (step z) z z second refl
      by_test false t = ap next (twice x) ∙ ap (λ (b : Bool). cond b z y) t

  -- what holds of what was done before, and of what the step makes where it fits, holds of what is taken
  pub taken_is : (P : A → Type 0) (x : A) → P (before x) → (good (step (before x)) ≡ true → P (step (before x))) → P (taken same good before step x)
  taken_is P x h k = by_test (good z && (same (before z) z && same (step z) z)) refl
    where
      z : A
      z = step (before x)

      by_test : (b : Bool) → (good z && (same (before z) z && same (step z) z)) ≡ b → P (cond b z (before x))
      by_test true t = k (both_true (good z) (same (before z) z && same (step z) z) t).0
      by_test false t = h

same_bytes : (x y : List ℕ) → bytes_eq x y ≡ true → x ≡ y
same_bytes x y h = (bytes_eq-Decides x y).0 h

same_texts : (x y : List ℕ × List ℕ) → same_both x y ≡ true → x ≡ y
same_texts x y h =
    let both = both_true (bytes_eq x.0 y.0) (bytes_eq x.1 y.1) h in
    λ i. (same_bytes x.0 y.0 both.0 i, same_bytes x.1 y.1 both.1 i)

pub squeezed_text_twice : (kept : KeptText) (text : List ℕ) → squeezed_text kept (squeezed_text kept text) ≡ squeezed_text kept text
squeezed_text_twice kept = taken_twice bytes_eq same_bytes (fits kept) (λ t. t) squeezed (λ t. refl)

pub normal_text_twice : (kept : KeptText) (text : List ℕ) → normal_text kept (normal_text kept text) ≡ normal_text kept text
normal_text_twice kept = taken_twice bytes_eq same_bytes (fits kept) (squeezed_text kept) unnumbered (squeezed_text_twice kept)

pub normal_clear_twice : (x : List ℕ × List ℕ) → normal_clear (normal_clear x) ≡ normal_clear x
normal_clear_twice = taken_twice same_both same_texts both_fit both_normal without_tags
    (λ x i. (normal_text_twice Head x.0 i, normal_text_twice ClearTail x.1 i))

-- where no name loses its tags, the two texts are only normalized each by itself
pub tags_stay : (x y : List ℕ × List ℕ) → same_both (both_normal x) y ≡ true → y ≡ without_tags (both_normal x) → both_normal x ≡ normal_clear x
tags_stay x y same is = sym (cond_same _ (without_tags (both_normal x)) (both_normal x) (both_normal x) (sym is ∙ sym (same_texts (both_normal x) y same)) refl)

-- texts that were normalized stay
pub normal_texts_stay : NormalTextsStay
normal_texts_stay s =
    let clear = normal_clear_twice (s.head, s.clear_tail) in
    λ i. record {
      head = (clear i).0;
      clear_tail = (clear i).1;
      private = normal_text_twice (Private s.len_iv) s.private i;
      middle = squeezed_text_twice Middle s.middle i;
      tail = squeezed_text_twice Tail s.tail i;
      len_iv = s.len_iv;
      subrs = s.subrs;
      glyphs_rd = s.glyphs_rd;
      glyphs_def = s.glyphs_def;
    }

-- ---- texts of a font

-- what a font wants of each of its texts
abbrev pub IsText : KeptText → List ℕ → Type 0
IsText Head t = NoMarker encoding_marker t × NoMarker eexec_marker t
IsText ClearTail t = Stops is_regular t × (option_map (λ x. x.1) ((first eexec_marker).read (t ++ 10 ∷ [])) ≡ Some (10 ∷ []))
IsText (Private iv) t = ((iv_of t).read ≡ Ok iv) × (NoMarker subrs_marker t × NoMarker chars_marker t)
IsText Middle t = Stops is_regular t × (NoMarker chars_marker t × Lacks subrs_marker t)
IsText Tail t = Stops is_regular t × (Lacks subrs_marker t × (option_map (λ x. x.1) ((first closefile).read t) ≡ Some []))

-- where no regular byte comes, words stop
stops_there : (t : List ℕ) → not (regular_comes t) ≡ true → Stops is_regular t
stops_there [] h = tt
stops_there (b ∷ bs) h = not_true (is_regular b) h

-- a marker that doesn't occur stands nowhere
nowhere : {A : Type 0} (g : Grammar A) (t : List ℕ) → not (occurs g t) ≡ true → Lacks g t
nowhere g t h = absent_lacks g t (not_true (occurs g t) h)

-- nor does it where a slash stands behind the text
none_there : {A : Type 0} (g : Grammar A) (t : List ℕ) → not (occurs g (t ++ 47 ∷ [])) ≡ true → NoMarker g t
none_there g t h = lacks_none g t (47 ∷ []) (nowhere g (t ++ 47 ∷ []) h)

-- what stands behind what was read
abbrev rest_of : {A : Type 0} → Option (A × List ℕ) → Option (List ℕ)
rest_of None = None
rest_of (Some x) = Some x.1

-- what stands behind the first place, seen from the front or from behind one byte
abbrev at_front : {A : Type 0} → Option (A × List ℕ) → Option ((List ℕ × A) × List ℕ)
at_front o = option_and_then (λ x. Some (([], x.0), x.1)) o

abbrev behind_byte : {A : Type 0} → ℕ → Option ((List ℕ × A) × List ℕ) → Option ((List ℕ × A) × List ℕ)
behind_byte b q = option_and_then (λ x. Some ((b ∷ x.0.0, x.0.1), x.1)) q

-- the marker that ends the clear text is read with its bytes as a value where it is read without
valued : (o : Option (List ℕ × List ℕ)) → rest_of {A = Unit {0}} (option_and_then (λ x. Some (tt, x.1)) o) ≡ rest_of o
valued None = refl
valued (Some x) = refl

at_end : {A B : Type 0} (o : Option (A × List ℕ)) (p : Option (B × List ℕ)) → rest_of o ≡ rest_of p → rest_of (at_front o) ≡ rest_of (at_front p)
at_end None None h = refl
at_end None (Some y) h = absurd (none-some _ h)
at_end (Some x) None h = absurd (none-some _ (sym h))
at_end (Some x) (Some y) h = h

after_first : {A B : Type 0} (o : Option (A × List ℕ)) (p : Option (B × List ℕ)) (q : Option ((List ℕ × A) × List ℕ)) (r : Option ((List ℕ × B) × List ℕ))
    (b : ℕ) → rest_of o ≡ rest_of p → rest_of q ≡ rest_of r →
    rest_of (choice (at_front o) (behind_byte b q)) ≡ rest_of (choice (at_front p) (behind_byte b r))
after_first None None None None b h k = refl
after_first None None None (Some y) b h k = absurd (none-some _ k)
after_first None None (Some y) None b h k = absurd (none-some _ (sym k))
after_first None None (Some x) (Some y) b h k = k
after_first None (Some y) q r b h k = absurd (none-some _ h)
after_first (Some y) None q r b h k = absurd (none-some _ (sym h))
after_first (Some x) (Some y) q r b h k = h

eexec_first : (text : List ℕ) → rest_of (first_at eexec_there text) ≡ rest_of (first_at eexec_marker text)
unfolding first_at eexec_there
eexec_first [] = at_end (eexec_there.read []) (eexec_marker.read []) (valued (eexec_marker.read []))
eexec_first (b ∷ bs) =
    after_first (eexec_there.read (b ∷ bs)) (eexec_marker.read (b ∷ bs)) (first_at eexec_there bs) (first_at eexec_marker bs) b
    (valued (eexec_marker.read (b ∷ bs))) (eexec_first bs)

-- what is left behind what was found
left_so : {A : Type 0} (rest : List ℕ) (o : Option (A × List ℕ)) → is_left rest o ≡ true → rest_of o ≡ Some rest
left_so rest None h = absurd (true≢false (sym h))
left_so rest (Some x) h = ap Some (sym (same_bytes rest x.1 h))

-- what is mapped to what stands behind it
mapped : {A : Type 0} (o : Option (A × List ℕ)) → option_map (λ x. x.1) o ≡ rest_of o
mapped None = refl
mapped (Some x) = refl

-- a private text that reads a number has it
number_so : (iv : ℕ) (r : Result ℕ ReadFault) → reads_number iv r ≡ true → r ≡ Ok iv
number_so iv (Ok n) h = ap Ok (eqb-true n iv h)
number_so iv (Err e) h = absurd (true≢false (sym h))

-- a text that fits is a text of a font
pub fits_so : (kept : KeptText) (t : List ℕ) → fits kept t ≡ true → IsText kept t
fits_so Head t h =
    let none = not_true (has_marker (t ++ 47 ∷ [])) h in
    let markers = neither (occurs encoding_marker (t ++ 47 ∷ [])) (occurs eexec_there (t ++ 47 ∷ [])) none in (
      lacks_none encoding_marker t (47 ∷ []) (absent_lacks encoding_marker (t ++ 47 ∷ []) markers.0),
      lacks_none eexec_marker t (47 ∷ []) (no_eexec (t ++ 47 ∷ []) (absent_lacks eexec_there (t ++ 47 ∷ []) markers.1)),
    )
fits_so ClearTail t h =
    let both = both_true (not (regular_comes t)) (ends_at eexec_there (10 ∷ []) (t ++ 10 ∷ [])) h in (
      stops_there t both.0,
      mapped ((first eexec_marker).read (t ++ 10 ∷ []))
          ∙ (sym (eexec_first (t ++ 10 ∷ [])) ∙ left_so (10 ∷ []) ((first eexec_there).read (t ++ 10 ∷ [])) both.1),
    )
fits_so (Private iv) t h =
    let both = both_true (reads_number iv (iv_of t).read) (not (occurs subrs_marker (t ++ 47 ∷ [])) && not (occurs chars_marker (t ++ 47 ∷ []))) h in
    let none = both_true (not (occurs subrs_marker (t ++ 47 ∷ []))) (not (occurs chars_marker (t ++ 47 ∷ []))) both.1 in
    (number_so iv (iv_of t).read both.0, (none_there subrs_marker t none.0, none_there chars_marker t none.1))
fits_so Middle t h =
    let both = both_true (not (regular_comes t) && not (occurs subrs_marker t)) (not (occurs chars_marker (t ++ 47 ∷ []))) h in
    let own = both_true (not (regular_comes t)) (not (occurs subrs_marker t)) both.0 in
    (stops_there t own.0, (none_there chars_marker t both.1, nowhere subrs_marker t own.1))
fits_so Tail t h =
    let both = both_true (own_fits Tail t) true h in
    let own = both_true (not (regular_comes t)) (not (occurs subrs_marker t) && ends_at closefile [] t) both.0 in
    let ends = both_true (not (occurs subrs_marker t)) (ends_at closefile [] t) own.1 in
    (stops_there t own.0, (nowhere subrs_marker t ends.0, mapped ((first closefile).read t) ∙ left_so [] ((first closefile).read t) ends.1))

-- ---- steps make texts of a font

-- a text that comes of another is a text of a font where the other is, and is no longer
pub record Becomes (kept : KeptText) (old new : List ℕ) : Type 0 where
  pub is : IsText kept old → IsText kept new
  pub shrinks : Shrinks old new

stays : (kept : KeptText) (text : List ℕ) → Becomes kept text text
stays kept text = record { is = λ h. h; shrinks = record { short = omega arith; bytes = λ h. h } }

-- a step from what another became
one_more : (kept : KeptText) (old mid new : List ℕ) → Becomes kept old mid → Shrinks mid new → IsText kept new → Becomes kept old new
one_more kept old mid new h k is = record {
  is = λ _. is;
  shrinks = record { short = omega (arith, h.shrinks.short, k.short); bytes = λ b. k.bytes (h.shrinks.bytes b) };
}

pub squeezed_becomes : (kept : KeptText) (text : List ℕ) → Becomes kept text (squeezed_text kept text)
squeezed_becomes kept text = taken_is bytes_eq same_bytes (fits kept) (λ t. t) squeezed (Becomes kept text) text (stays kept text)
    (λ h. one_more kept text text (squeezed text) (stays kept text) (pieces_shrink squeezed_piece squeezed_takes (length text) text)
    (fits_so kept (squeezed text) h))

pub normal_becomes : (kept : KeptText) (text : List ℕ) → Becomes kept text (normal_text kept text)
normal_becomes kept text =
    let mid = squeezed_text kept text in
    taken_is bytes_eq same_bytes (fits kept) (squeezed_text kept) unnumbered (Becomes kept text) text (squeezed_becomes kept text)
    (λ h. one_more kept text mid (unnumbered mid) (squeezed_becomes kept text) (pieces_shrink unnumbered_piece unnumbered_takes (length mid) mid)
    (fits_so kept (unnumbered mid) h))

-- the two texts around the Encoding
abbrev pub BothBecome : List ℕ × List ℕ → List ℕ × List ℕ → Type 0
BothBecome x y = Becomes Head x.0 y.0 × Becomes ClearTail x.1 y.1

-- both shrink where their name loses its tags
both_shrink : (o : Option (List ℕ)) (x : List ℕ × List ℕ) → Shrinks x.0 (both_untagged o x).0 × Shrinks x.1 (both_untagged o x).1
both_shrink None x = (record { short = omega arith; bytes = λ h. h }, record { short = omega arith; bytes = λ h. h })
both_shrink (Some name) x =
    (pieces_shrink (untagged_piece name) (untagged_takes name) (length x.0) x.0, pieces_shrink (untagged_piece name) (untagged_takes name) (length x.1) x.1)

pub clear_becomes : (x : List ℕ × List ℕ) → BothBecome x (normal_clear x)
clear_becomes x =
    let mid = both_normal x in
    let made : BothBecome x mid = (normal_becomes Head x.0, normal_becomes ClearTail x.1) in
    let less = both_shrink (tagged_name mid) mid in
    taken_is same_both same_texts both_fit both_normal without_tags (BothBecome x) x made
    (λ h.
    let both = both_true (fits Head (without_tags mid).0) (fits ClearTail (without_tags mid).1) h in (
      one_more Head x.0 mid.0 (without_tags mid).0 made.0 less.0 (fits_so Head (without_tags mid).0 both.0),
      one_more ClearTail x.1 mid.1 (without_tags mid).1 made.1 less.1 (fits_so ClearTail (without_tags mid).1 both.1),
    ))

-- ---- shells

-- the texts of a shell, normalized, are no longer
pub normal_shorter : (s : Shell) → texts_weight (normal_texts s) ≤ texts_weight s
normal_shorter s =
    let clear = clear_becomes (s.head, s.clear_tail) in
    omega (
      arith,
      clear.0.shrinks.short,
      clear.1.shrinks.short,
      (normal_becomes (Private s.len_iv) s.private).shrinks.short,
      (squeezed_becomes Middle s.middle).shrinks.short,
      (squeezed_becomes Tail s.tail).shrinks.short,
    )

-- a middle without bytes has none when it is normalized
pub empty_stays : (t : List ℕ) → t ≡ [] → squeezed_text Middle t ≡ []
empty_stays t e = ap (squeezed_text Middle) e ∙ cond_same _ [] [] [] refl refl

module _ (s : Shell) where
  -- what a font wants of its clear text holds when its texts are normalized
  pub normal_clear_shell : IsClearShell s → IsClearShell (normal_texts s)
  normal_clear_shell h =
      let clear = clear_becomes (s.head, s.clear_tail) in
      let head = clear.0.is (h.head_encoding, h.head_eexec) in
      let tail = clear.1.is (h.tail_apart, h.tail_ends) in
      record { head_encoding = head.0; head_eexec = head.1; tail_apart = tail.0; tail_ends = tail.1 }

  -- and so does what it wants of its private text
  pub normal_private_shell : IsPrivateShell s → IsPrivateShell (normal_texts s)
  normal_private_shell h =
      let private = (normal_becomes (Private s.len_iv) s.private).is (h.iv, (h.no_subrs, h.no_chars)) in
      let middle = (squeezed_becomes Middle s.middle).is (h.middle_apart, (h.middle_chars, h.middle_subrs)) in
      let tail = (squeezed_becomes Tail s.tail).is (h.tail_apart, (h.tail_subrs, h.tail_ends)) in
      record {
        iv = private.0;
        no_subrs = private.1.0;
        no_chars = private.1.1;
        middle_apart = middle.0;
        middle_chars = middle.1.0;
        middle_subrs = middle.1.1;
        tail_apart = tail.0;
        tail_subrs = tail.1.0;
        tail_ends = tail.1.1;
      }

  -- they are bytes
  pub normal_are_texts : AreTexts s → AreTexts (normal_texts s)
  normal_are_texts h =
      let clear = clear_becomes (s.head, s.clear_tail) in
      record {
        head = clear.0.shrinks.bytes h.head;
        clear_tail = clear.1.shrinks.bytes h.clear_tail;
        private = (normal_becomes (Private s.len_iv) s.private).shrinks.bytes h.private;
        middle = (squeezed_becomes Middle s.middle).shrinks.bytes h.middle;
        tail = (squeezed_becomes Tail s.tail).shrinks.bytes h.tail;
      }
