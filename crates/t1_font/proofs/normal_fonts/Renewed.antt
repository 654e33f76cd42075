-- What normalizing changes in texts, word by word.
use Rattle.std.proofs.Common.{◌≡◌, ◌⊎◌, ℕ, arith, Bool, true, false, cond, List, ◌++◌, length, take, Option, Some, None, inl, inr, refl, sym, ap, subst, ◌∙◌}
use Rattle.std.proofs.{Common.{append_assoc}, Math.Seq.{take-append_seam}, lemmas.List.{length-append}}
use Rattle.std.proofs.lemmas.Option.{none-some}
use Rattle.std.specs.{Prelude.{max, ◌-◌, ◌&&◌}, Str.{bytes_eq}, Option.{option_map}}
use Rattle.t1_grammar.specs.Grammar.{first}
use Rattle.t1_text.specs.{Words.{is_regular}, Rewriting.{parted}, Squeezing.{squeezed}}
use Rattle.t1_text.specs.Identity.{unnumbered}
use Rattle.t1_text.specs.Tags.{text_untagged, tagged_name, both_untagged, name_marker}
use Rattle.t1_text.specs.{Renewing.{words, Renews, TextRenews, SameButNumbers, SameButName}, Boxes.{Box, BoxPlace, place_in}}
use Rattle.t1_font.specs.Renewing.{Renewed, TextsRenewed}
use Rattle.t1_font.specs.{declared.normal_texts.KeptText.{KeptText}, declared.normal_texts.KeptText.TheVariants.{Head, ClearTail, Private, Middle, Tail}}
use Rattle.t1_font.specs.NormalTexts.{fits, squeezed_text, normal_text, both_normal, without_tags, both_fit, same_both, normal_clear}
use Rattle.t1_font.specs.FontNames.{name_between, text_named}
use Rattle.t1_font.specs.{FontValue.{Shell, SubrsShell}, Normalizing.{raised}}
use Rattle.t1_font.specs.FontBoxes.{Side, InHead, InTail, side_of, side_in, texts_at, texts_with, clear_of}
use Rattle.t1_text.proofs.BoxPlaces.{place_is}
use Rattle.t1_text.proofs.RewritingLemmas.{parted_whole}
use Rattle.t1_text.proofs.Renewed.{squeezed_words, same_renews, unnumbered_renews, bare_words_are, tags_go}

-- ---- texts of a font

-- a step is taken, or it isn't
either_taken : {A : Type 0} (P : A → Type 0) (test : Bool) (new old : A) → P new → P old → P (cond test new old)
either_taken P true new old h k = h
either_taken P false new old h k = k

squeezed_same : (kept : KeptText) (t : List ℕ) → words (squeezed_text kept t) ≡ words t
squeezed_same kept t = either_taken (λ u. words u ≡ words t)
    (fits kept (squeezed t) && (bytes_eq (squeezed t) (squeezed t) && bytes_eq (squeezed (squeezed t)) (squeezed t)))
    (squeezed t) t (squeezed_words t) refl

normal_renews : (kept : KeptText) (t : List ℕ) → TextRenews None t (normal_text kept t)
normal_renews kept t = either_taken (TextRenews None t)
    (fits kept (unnumbered s) && (bytes_eq (squeezed_text kept (unnumbered s)) (unnumbered s) && bytes_eq (unnumbered (unnumbered s)) (unnumbered s)))
    (unnumbered s) s (subst (λ (l : List (List ℕ)). Renews None l (words (unnumbered s))) same (unnumbered_renews s))
    (subst (λ (l : List (List ℕ)). Renews None l (words s)) same (same_renews (words s)))
  where
    s : List ℕ
    s = squeezed_text kept t

    same : words s ≡ words t
    same = squeezed_same kept t

-- what becomes of the two texts around the Encoding
record ClearRenews (x y : List ℕ × List ℕ) : Type 0 where
  name : Option (List ℕ)
  own : (name ≡ None) ⊎ (name ≡ tagged_name (both_normal x))
  head : TextRenews name x.0 y.0
  clear_tail : TextRenews name x.1 y.1

untagged_renew : (x : List ℕ × List ℕ) (o : Option (List ℕ)) → tagged_name (both_normal x) ≡ o → ClearRenews x (both_untagged o (both_normal x))
untagged_renew x None e = record { name = None; own = inl refl; head = normal_renews Head x.0; clear_tail = normal_renews ClearTail x.1 }
untagged_renew x (Some name) e = record {
  name = Some name;
  own = inr (sym e);
  head = bare (normal_text Head x.0) x.0 (normal_renews Head x.0);
  clear_tail = bare (normal_text ClearTail x.1) x.1 (normal_renews ClearTail x.1);
}
  where
    bare : (mid old : List ℕ) → TextRenews None old mid → TextRenews (Some name) old (text_untagged name mid)
    bare mid old h = subst (λ (l : List (List ℕ)). Renews (Some name) (words old) l) (sym (bare_words_are name mid)) (tags_go name (words old) (words mid) h)

clear_renews : (x : List ℕ × List ℕ) → ClearRenews x (normal_clear x)
clear_renews x = either_taken (ClearRenews x)
    (both_fit (without_tags m) && (same_both (both_normal (without_tags m)) (without_tags m) && same_both (without_tags (without_tags m)) (without_tags m)))
    (without_tags m) m (untagged_renew x (tagged_name m) refl)
    (record { name = None; own = inl refl; head = normal_renews Head x.0; clear_tail = normal_renews ClearTail x.1 })
  where
    m : List ℕ × List ℕ
    m = both_normal x

-- the texts of a shell that are normalized
pub texts_renewed : TextsRenewed
texts_renewed s =
    let c = clear_renews (clear_of s) in
    record {
      name = c.name;
      own = c.own;
      head = c.head;
      clear_tail = c.clear_tail;
      private = normal_renews (Private s.len_iv) s.private;
      middle = squeezed_same Middle s.middle;
      tail = squeezed_same Tail s.tail;
      len_iv = refl;
      subrs = refl;
      glyphs_rd = refl;
      glyphs_def = refl;
    }

-- ---- boxes

-- the two texts of a shell with another box in place of theirs
pub box_texts : (u : Box) (x : List ℕ × List ℕ) (o : Option Side) → side_in x ≡ o →
    SameButNumbers x.0 (texts_with u x o).0 × SameButNumbers x.1 (texts_with u x o).1
box_texts u x None e = (inl refl, inl refl)
box_texts u x (Some s) e = by_places (place_in x.0) (place_in x.1) refl refl s e
  where
    by_places : (o q : Option BoxPlace) → place_in x.0 ≡ o → place_in x.1 ≡ q → (s : Side) → side_of o q ≡ Some s →
        SameButNumbers x.0 (texts_at u x s).0 × SameButNumbers x.1 (texts_at u x s).1
    by_places (Some p) q e f (InHead r) k = let same : p ≡ r = cc in (inr (r, u, place_is x.0 r (e ∙ ap Some same), refl), inl refl)
    by_places (Some p) q e f (InTail r) k = absurd cc
    by_places None (Some p) e f (InTail r) k = let same : p ≡ r = cc in (inl refl, inr (r, u, place_is x.1 r (f ∙ ap Some same), refl))
    by_places None (Some p) e f (InHead r) k = absurd cc
    by_places None None e f s k = absurd (none-some s k)

-- ---- what stays

none_raised : (s : Option SubrsShell) → s ≡ option_map (raised 0) s
none_raised None = refl
none_raised (Some s) = λ i. Some (record { declared = same s.declared i; rd = s.rd; put = s.put; closing = s.closing })
  where
    same : (n : ℕ) → n ≡ max 0 n
    same n = omega arith

-- the texts of a font that is not normalized
pub stay_renewed : (s : Shell) → Renewed s s
stay_renewed s = record {
  between = s;
  texts = record {
    name = None;
    own = inl refl;
    head = same_renews (words s.head);
    clear_tail = same_renews (words s.clear_tail);
    private = same_renews (words s.private);
    middle = refl;
    tail = refl;
    len_iv = refl;
    subrs = refl;
    glyphs_rd = refl;
    glyphs_def = refl;
  };
  box = record {
    head = inl refl;
    clear_tail = inl refl;
    private = refl;
    middle = refl;
    tail = refl;
    len_iv = refl;
    count = 0;
    subrs = none_raised s.subrs;
    glyphs_rd = refl;
    glyphs_def = refl;
  };
}

-- ---- names

-- a front of a text, by what stands behind it
front_is : (front rest : List ℕ) → take (length (front ++ rest) - length rest) (front ++ rest) ≡ front
front_is front rest =
    let long : length (front ++ rest) - length rest ≡ length front = omega (arith, length-append front rest) in
    ap (λ (n : ℕ). take n (front ++ rest)) long ∙ take-append_seam front rest

pub name_renews : (name text : List ℕ) → SameButName text (text_named name text)
name_renews name text = by_read ((first name_marker).read text) refl
  where
    by_read : (o : Option ((List ℕ × List ℕ) × List ℕ)) → (first name_marker).read text ≡ o →
        SameButName text (name_between name text (option_map (λ x. (take (length text - length x.1) text, (parted is_regular x.1).1)) o))
    by_read None e = inl refl
    by_read (Some x) e =
        let s = (first name_marker).takes text x e in
        let word = (parted is_regular x.1).0 in
        let behind = (parted is_regular x.1).1 in
        let whole : x.1 ≡ word ++ behind = parted_whole is_regular x.1 in
        inr (
          x.0,
          s.0,
          word,
          name,
          behind,
          subst (λ (u : List ℕ). (first name_marker).Spells x.0 s.0 u) whole s.2,
          s.1 ∙ ap (λ (u : List ℕ). s.0 ++ u) whole,
          append_assoc (take (length text - length x.1) text) name behind
              ∙ ap (λ (u : List ℕ). u ++ (name ++ behind)) (ap (λ (t : List ℕ). take (length t - length x.1) t) s.1 ∙ front_is s.0 x.1),
        )
