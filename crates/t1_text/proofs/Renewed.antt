-- Texts that are squeezed, lose lines or lose tags, word by word.
use Rattle.std.proofs.Common.{◌≡◌, ℕ, zero, suc, ◌≤◌, ◌<◌, arith, Bool, true, false, cond, List, [], ◌∷◌, ◌++◌, length, Option, Some, None, refl, sym, ap, subst, ◌∙◌}
use Rattle.std.proofs.{Common.{append_assoc, true≢false}, lemmas.List.{length-append, append-nil}, lemmas.Grind.{flat_map-append}}
use Rattle.std.proofs.{lemmas.Bool.{eqb-true}, lemmas.Slice.Eq.{bytes_eq-Decides}}
use Rattle.std.specs.{Prelude.{not, ◌==◌, ◌||◌, codes}, List.{AllByRecursion, list_any, flat_map}}
use Rattle.t1_bytes.specs.Eexec.{is_blank}
use Rattle.t1_grammar.specs.Grammar.{Stops}
use Rattle.t1_text.specs.{Words.{is_regular}, Rewriting.{Piece, pieces, parted}, Squeezing.{ends_line, one_space, is_solid, squeezed_piece, squeezed}}
use Rattle.t1_text.specs.Identity.{identity_line, identity_comment, is_in_line, with_end, without_line, without_comment, unnumbered_piece, unnumbered}
use Rattle.t1_text.specs.Tags.{renamed, untagged_piece, text_untagged}
use Rattle.t1_text.specs.Renewing.{some_word, words_behind, words, untagged_words, Renews, none, stays, goes, empties, SqueezedWords}
use Rattle.t1_text.proofs.Untested.{not_true}
use Rattle.t1_text.proofs.RewritingLemmas.{squeezed_takes, untagged_takes, one_piece, piece_at, solid_stays, parted_next, parted_whole, parted_some, numbered_some, commented_two}

-- ---- words

-- words behind a front, and then the words behind a blank
pub words_apart : (w x : List ℕ) (c : ℕ) (y : List ℕ) → is_blank c ≡ true → words_behind w (x ++ c ∷ y) ≡ words_behind w x ++ words y
unfolding words_behind
words_apart w [] c y e = rw e refl
words_apart w (b ∷ bs) c y e = by_first (is_blank b) refl (words_apart [] bs c y e) (words_apart (w ++ b ∷ []) bs c y e)
  where
    by_first : (t : Bool) → is_blank b ≡ t → words_behind [] (bs ++ c ∷ y) ≡ words_behind [] bs ++ words y →
        words_behind (w ++ b ∷ []) (bs ++ c ∷ y) ≡ words_behind (w ++ b ∷ []) bs ++ words y →
        cond t (some_word w ++ words_behind [] (bs ++ c ∷ y)) (words_behind (w ++ b ∷ []) (bs ++ c ∷ y))
        ≡ cond t (some_word w ++ words_behind [] bs) (words_behind (w ++ b ∷ []) bs) ++ words y
    by_first true k h g = ap (λ (l : List (List ℕ)). some_word w ++ l) h ∙ sym (append_assoc (some_word w) (words_behind [] bs) (words y))
    by_first false k h g = g

-- all bytes of a text are blanks, tabs, CR or LF; or none are
abbrev AllBlank : List ℕ → Type 0
AllBlank = AllByRecursion (λ b. is_blank b ≡ true)

abbrev AllSolid : List ℕ → Type 0
AllSolid = AllByRecursion (λ b. is_blank b ≡ false)

-- solid bytes go on with a word
pub solid_behind : (w a y : List ℕ) → AllSolid a → words_behind w (a ++ y) ≡ words_behind (w ++ a) y
unfolding words_behind
solid_behind w [] y h = ap (λ (v : List ℕ). words_behind v y) (sym (append-nil w))
solid_behind w (b ∷ a) y h =
    rw h.0 (solid_behind (w ++ b ∷ []) a y h.1 ∙ ap (λ (v : List ℕ). words_behind v y) (append_assoc w (b ∷ []) a))

-- blanks have no words
blank_behind : (a y : List ℕ) → AllBlank a → words (a ++ y) ≡ words y
unfolding words_behind
blank_behind [] y h = refl
blank_behind (b ∷ a) y h = rw h.0 (blank_behind a y h.1)

-- and end a word
pub blanks_end : (w : List ℕ) (b : ℕ) (a y : List ℕ) → AllBlank (b ∷ a) → words_behind w (b ∷ a ++ y) ≡ some_word w ++ words y
unfolding words_behind
blanks_end w b a y h = rw h.0 (ap (λ (l : List (List ℕ)). some_word w ++ l) (blank_behind a y h.1))

-- ---- parts of a text

-- the bytes of a front pass its test
pub front_passes : (p : ℕ → Bool) (t : List ℕ) → AllByRecursion (λ b. p b ≡ true) (parted p t).0
front_passes p [] = tt
front_passes p (b ∷ bs) = by_first (p b) refl (front_passes p bs)
  where
    by_first : (x : Bool) → p b ≡ x → AllByRecursion (λ b. p b ≡ true) (parted p bs).0 → AllByRecursion (λ b. p b ≡ true) (parted p (b ∷ bs)).0
    by_first true e h = subst (λ (x : List ℕ × List ℕ). AllByRecursion (λ b. p b ≡ true) x.0) (sym (parted_next p b bs e)) (e, h)
    by_first false e h = rw e tt

-- ---- squeezing

-- what takes the place of a run ends a word
space_ends : (w run y : List ℕ) → words_behind w (one_space run ++ y) ≡ some_word w ++ words y
unfolding words_behind
space_ends w run y = by_end (list_any ends_line run)
  where
    by_end : (x : Bool) → words_behind w (cond x (10 ∷ []) (32 ∷ []) ++ y) ≡ some_word w ++ words y
    by_end true = refl
    by_end false = refl

-- a text that is squeezed has the words that it had, behind any front
squeezed_behind : (n : ℕ) (w t : List ℕ) → length t ≤ n → words_behind w (squeezed t) ≡ words_behind w t
squeezed_behind n w [] le = refl
squeezed_behind zero w (b ∷ bs) le = absurd (omega (arith, le))
squeezed_behind (suc n) w (b ∷ bs) le =
    let part = parted is_blank bs in
    let whole : bs ≡ part.0 ++ part.1 = parted_whole is_blank bs in
    by_first (is_blank b) refl whole (squeezed_behind n [] part.1 (omega (arith, le, ap length whole, length-append part.0 part.1)))
    (squeezed_behind n (w ++ b ∷ []) bs (omega (arith, le)))
  where
    run : List ℕ
    run = (parted is_blank bs).0

    rest : List ℕ
    rest = (parted is_blank bs).1

    by_first : (x : Bool) → is_blank b ≡ x → bs ≡ run ++ rest → words (squeezed rest) ≡ words rest →
        words_behind (w ++ b ∷ []) (squeezed bs) ≡ words_behind (w ++ b ∷ []) bs → words_behind w (squeezed (b ∷ bs)) ≡ words_behind w (b ∷ bs)
    by_first true e whole h g =
        ap (words_behind w) (one_piece squeezed_piece squeezed_takes b bs
        ∙ (ap (λ (y : List ℕ × List ℕ). y.0 ++ squeezed y.1) (piece_at b bs true e)
        ∙ ap (λ (y : List ℕ × List ℕ). one_space y.0 ++ squeezed y.1) (parted_next is_blank b bs e)))
        ∙ (space_ends w (b ∷ run) (squeezed rest)
        ∙ (ap (λ (l : List (List ℕ)). some_word w ++ l) h
        ∙ (sym (blanks_end w b run rest (e, front_passes is_blank bs)) ∙ ap (λ (y : List ℕ). words_behind w (b ∷ y)) (sym whole))))
    by_first false e whole h g =
        ap (words_behind w) (solid_stays b bs e) ∙ (solid_behind w (b ∷ []) (squeezed bs) (e, tt) ∙ (g ∙ sym (solid_behind w (b ∷ []) bs (e, tt))))

pub squeezed_words : SqueezedWords
squeezed_words text = squeezed_behind (length text) [] text (omega arith)

-- ---- parts of a text, once more

-- behind a front comes a byte that fails its test, or nothing
front_stops : (p : ℕ → Bool) (t : List ℕ) → Stops p (parted p t).1
front_stops p [] = tt
front_stops p (b ∷ bs) = by_first (p b) refl (front_stops p bs)
  where
    by_first : (x : Bool) → p b ≡ x → Stops p (parted p bs).1 → Stops p (parted p (b ∷ bs)).1
    by_first true e h = subst (λ (x : List ℕ × List ℕ). Stops p x.1) (sym (parted_next p b bs e)) h
    by_first false e h = rw e e

-- a front that ends before a byte which fails its test ends there whatever stands behind
parted_apart : (p : ℕ → Bool) (a : List ℕ) (c : ℕ) (t : List ℕ) → p c ≡ false → parted p (a ++ c ∷ t) ≡ ((parted p a).0, (parted p a).1 ++ c ∷ t)
parted_apart p [] c t e = rw e refl
parted_apart p (b ∷ a) c t e = by_first (p b) refl (parted_apart p a c t e)
  where
    by_first : (x : Bool) → p b ≡ x → parted p (a ++ c ∷ t) ≡ ((parted p a).0, (parted p a).1 ++ c ∷ t) →
        parted p (b ∷ a ++ c ∷ t) ≡ ((parted p (b ∷ a)).0, (parted p (b ∷ a)).1 ++ c ∷ t)
    by_first true k h =
        parted_next p b (a ++ c ∷ t) k
        ∙ (ap (λ (x : List ℕ × List ℕ). (b ∷ x.0, x.1)) h ∙ ap (λ (x : List ℕ × List ℕ). (x.0, x.1 ++ c ∷ t)) (sym (parted_next p b a k)))
    by_first false k h = rw k refl

-- ---- lines that number the font

-- a byte that is LF is a blank
lf_blank : (c : ℕ) → is_in_line c ≡ false → is_blank c ≡ true
lf_blank c h = subst (λ (b : ℕ). is_blank b ≡ true) (sym (eqb-true c 10 (was_true (c == 10) h))) refl
  where
    was_true : (x : Bool) → not x ≡ false → x ≡ true
    was_true true h = refl
    was_true false h = absurd (true≢false h)

five_parts : (a b c d e : List ℕ) → a ++ (b ++ (c ++ (d ++ e))) ≡ (a ++ (b ++ (c ++ d))) ++ e
five_parts a b c d e = simp append_assoc

-- a line that numbers its font ends with LF
line_ends : (own rest : List ℕ) → identity_line.Spells tt own rest → (body : List ℕ) × (own ≡ body ++ 10 ∷ [])
unfolding identity_line
line_ends own rest s =
    let a = s.5 in
    let b = a.5 in
    let c = b.5 in
    let d = c.5 in
    let lf : d.1 ≡ 10 ∷ [] = d.4.0.0 ∙ sym ((bytes_eq-Decides (10 ∷ []) d.0).0 d.4.1) in
    let end : c.2 ≡ 10 ∷ [] = d.3 ∙ (λ i. lf i ++ d.5.0 i) in (
      s.1 ++ (a.1 ++ (b.1 ++ c.1)),
      s.3 ∙ ((λ i. s.1 ++ (a.3 ∙ (λ j. a.1 ++ (b.3 ∙ (λ k. b.1 ++ (c.3 ∙ ap (λ (v : List ℕ). c.1 ++ v) end) k)) j)) i)
          ∙ five_parts s.1 a.1 b.1 c.1 (10 ∷ [])),
    )

-- and so does such a comment
comment_ends : (own rest : List ℕ) → identity_comment.Spells tt own rest → (body : List ℕ) × (own ≡ body ++ 10 ∷ [])
unfolding identity_comment
comment_ends own rest s =
    let e = line_ends s.2 rest s.5 in
    (s.1 ++ e.0, s.3 ∙ (ap (λ (v : List ℕ). s.1 ++ v) e.1 ∙ sym (append_assoc s.1 e.0 (10 ∷ []))))

-- words that end with LF are those of a text before what stands behind it
ended_words : (own rest : List ℕ) → (body : List ℕ) × (own ≡ body ++ 10 ∷ []) → words (own ++ rest) ≡ words own ++ words rest
unfolding words_behind
ended_words own rest ends =
    let alone : words own ≡ words ends.0 ++ [] = ap words ends.1 ∙ words_apart [] ends.0 10 [] refl in
    ap words (ap (λ (v : List ℕ). v ++ rest) ends.1 ∙ append_assoc ends.0 (10 ∷ []) rest)
    ∙ (words_apart [] ends.0 10 rest refl ∙ ap (λ (l : List (List ℕ)). l ++ words rest) (sym (append-nil (words ends.0)) ∙ sym alone))

-- words that stay before others that are renewed
all_stay : (ws old new : List (List ℕ)) → Renews None old new → Renews None (ws ++ old) (ws ++ new)
all_stay [] old new h = h
all_stay (w ∷ ws) old new h = stays w (ws ++ old) (ws ++ new) (all_stay ws old new h)

-- words that stay
pub same_renews : (ws : List (List ℕ)) → Renews None ws ws
same_renews ws = subst (λ (l : List (List ℕ)). Renews None l l) (append-nil ws) (all_stay ws [] [] none)

no_pieces : (piece : Piece) (n : ℕ) → pieces piece n [] ≡ []
no_pieces piece zero = refl
no_pieces piece (suc n) = refl

-- a text loses the words of lines that number its font, in comments too, and no other
unnumbered_so : (n : ℕ) (t : List ℕ) → length t ≤ n → Renews None (words t) (words (pieces unnumbered_piece n t))
unfolding unnumbered_piece words_behind
unnumbered_so n [] le = subst (λ (v : List ℕ). Renews None (words []) (words v)) (sym (no_pieces unnumbered_piece n)) (same_renews (words []))
unnumbered_so zero (b ∷ bs) le = absurd (omega (arith, le))
unnumbered_so (suc n) (b ∷ bs) le = by_comment (identity_comment.read (b ∷ bs)) refl (λ rest less. unnumbered_so n rest (omega (arith, le, less)))
  where
    text : List ℕ
    text = b ∷ bs

    by_end : (body rest : List ℕ) → text ≡ body ++ rest → Stops is_in_line rest →
        ((u : List ℕ) → length u < length text → Renews None (words u) (words (pieces unnumbered_piece n u))) →
        Renews None (words text) (words ((with_end body rest).0 ++ pieces unnumbered_piece n (with_end body rest).1))
    by_end body [] whole stop later =
        subst (λ (v : List ℕ). Renews None (words text) (words v))
        (whole ∙ ap (λ (v : List ℕ). body ++ v) (sym (no_pieces unnumbered_piece n))) (same_renews (words text))
    by_end body (c ∷ rest) whole stop later =
        let blank = lf_blank c stop in
        let more = later rest (omega (arith, ap length whole, length-append body (c ∷ rest))) in
        let out = pieces unnumbered_piece n rest in
        subst (λ (v : List (List ℕ) × List (List ℕ)). Renews None v.0 v.1)
        (λ i. (
          sym (ap words whole ∙ words_apart [] body c rest blank) i,
          sym (ap words (append_assoc body (c ∷ []) out) ∙ words_apart [] body c out blank) i,
        ))
        (all_stay (words body) (words rest) (words out) more)

    by_line : (o : Option (Unit {0} × List ℕ)) → identity_line.read text ≡ o →
        ((u : List ℕ) → length u < length text → Renews None (words u) (words (pieces unnumbered_piece n u))) →
        Renews None (words text) (words ((without_line text o).0 ++ pieces unnumbered_piece n (without_line text o).1))
    by_line None e later =
        by_end (parted is_in_line text).0 (parted is_in_line text).1 (parted_whole is_in_line text) (front_stops is_in_line text) later
    by_line (Some x) e later =
        let s = identity_line.takes text x e in
        let whole : words text ≡ words s.0 ++ words x.1 = ap words s.1 ∙ ended_words s.0 x.1 (line_ends s.0 x.1 s.2) in
        subst (λ (l : List (List ℕ)). Renews None l (words (pieces unnumbered_piece n x.1))) (sym whole)
        (goes (words s.0) (words x.1) (words (pieces unnumbered_piece n x.1)) (record { text = s.0; behind = x.1; numbers = s.2; are = refl })
        (later x.1 (omega (arith, ap length s.1, length-append s.0 x.1, numbered_some s.0 x.1 s.2))))

    by_comment : (o : Option (Unit {0} × List ℕ)) → identity_comment.read text ≡ o →
        ((u : List ℕ) → length u < length text → Renews None (words u) (words (pieces unnumbered_piece n u))) →
        Renews None (words text) (words ((without_comment text o).0 ++ pieces unnumbered_piece n (without_comment text o).1))
    by_comment None e later = by_line (identity_line.read text) refl later
    by_comment (Some x) e later =
        let s = identity_comment.takes text x e in
        let out = pieces unnumbered_piece n x.1 in
        let whole : words text ≡ words s.0 ++ words x.1 = ap words s.1 ∙ ended_words s.0 x.1 (comment_ends s.0 x.1 s.2) in
        let left : words (codes "%\n" ++ out) ≡ codes "%" ∷ words out = words_apart [] (codes "%") 10 out refl in
        subst (λ (l : List (List ℕ) × List (List ℕ)). Renews None l.0 l.1) (λ i. (sym whole i, sym left i))
        (empties (words s.0) (words x.1) (words out) (record { text = s.0; behind = x.1; numbers = s.2; are = refl })
        (later x.1 (omega (arith, ap length s.1, length-append s.0 x.1, commented_two s.0 x.1 s.2))))

pub unnumbered_renews : (t : List ℕ) → Renews None (words t) (words (unnumbered t))
unnumbered_renews t = unnumbered_so (length t) t (omega arith)

-- ---- tags

-- a blank is no part of a word
blank_breaks : (c : ℕ) → is_blank c ≡ true → is_regular c ≡ false
blank_breaks c h = by_case (c == 32) refl (c == 9) refl (c == 13) refl (c == 10) refl h
  where
    at : (n : ℕ) → (c == n) ≡ true → is_regular n ≡ false → is_regular c ≡ false
    at n e f = subst (λ (b : ℕ). is_regular b ≡ false) (sym (eqb-true c n e)) f

    by_case : (w : Bool) → (c == 32) ≡ w → (x : Bool) → (c == 9) ≡ x → (y : Bool) → (c == 13) ≡ y → (z : Bool) → (c == 10) ≡ z →
        (w || x || y || z) ≡ true → is_regular c ≡ false
    by_case true e x f y g z k h = at 32 e refl
    by_case false e true f y g z k h = at 9 f refl
    by_case false e false f true g z k h = at 13 g refl
    by_case false e false f false g true k h = at 10 k refl
    by_case false e false f false g false k h = absurd (true≢false (sym h))

module _ (name : List ℕ) where
  -- a text in which the name has lost its tags
  abbrev bare : List ℕ → List ℕ
  bare t = text_untagged name t

  -- what stands between words
  abbrev apart : List ℕ → List ℕ × List ℕ
  apart t = parted (λ b. not (is_regular b)) t

  break_rest : (t : List ℕ) → bare t ≡ (apart t).0 ++ bare (apart t).1
  break_rest [] = refl
  break_rest (d ∷ ds) = by_first (is_regular d) refl
    where
      no_break : not (is_regular d) ≡ false → apart (d ∷ ds) ≡ ([], d ∷ ds)
      no_break fails = rw fails refl

      by_first : (x : Bool) → is_regular d ≡ x → bare (d ∷ ds) ≡ (apart (d ∷ ds)).0 ++ bare (apart (d ∷ ds)).1
      by_first true e = sym (ap (λ (x : List ℕ × List ℕ). x.0 ++ bare x.1) (no_break (ap not e)))
      by_first false e = one_piece (untagged_piece name) (untagged_takes name) d ds
          ∙ ap (λ (x : Bool). (cond x (renamed name (parted is_regular (d ∷ ds)).0, (parted is_regular (d ∷ ds)).1) (apart (d ∷ ds))).0
          ++ bare (cond x (renamed name (parted is_regular (d ∷ ds)).0, (parted is_regular (d ∷ ds)).1) (apart (d ∷ ds))).1) e

  -- a byte between words stays
  break_stays : (c : ℕ) (t : List ℕ) → is_regular c ≡ false → bare (c ∷ t) ≡ c ∷ bare t
  break_stays c t e =
      break_rest (c ∷ t)
      ∙ (ap (λ (x : List ℕ × List ℕ). x.0 ++ bare x.1) (parted_next (λ b. not (is_regular b)) c t (ap not e)) ∙ ap (λ (u : List ℕ). c ∷ u) (sym (break_rest t)))

  -- a word at the front is renamed
  word_first : (d : ℕ) (ds : List ℕ) → is_regular d ≡ true →
      bare (d ∷ ds) ≡ renamed name (parted is_regular (d ∷ ds)).0 ++ bare (parted is_regular (d ∷ ds)).1
  word_first d ds e = one_piece (untagged_piece name) (untagged_takes name) d ds
      ∙ ap (λ (x : Bool). (cond x (renamed name (parted is_regular (d ∷ ds)).0, (parted is_regular (d ∷ ds)).1) (apart (d ∷ ds))).0
      ++ bare (cond x (renamed name (parted is_regular (d ∷ ds)).0, (parted is_regular (d ∷ ds)).1) (apart (d ∷ ds))).1) e

  -- so a text loses tags before such a byte and behind it
  bare_apart : (n : ℕ) (a : List ℕ) (c : ℕ) (t : List ℕ) → length a ≤ n → is_regular c ≡ false → bare (a ++ c ∷ t) ≡ bare a ++ c ∷ bare t
  bare_apart n [] c t le e = break_stays c t e
  bare_apart zero (d ∷ a) c t le e = absurd (omega (arith, le))
  bare_apart (suc n) (d ∷ a) c t le e =
      by_first (is_regular d) refl (bare_apart n a c t (omega (arith, le)) e)
      (λ u less. bare_apart n u c t (omega (arith, le, less)) e)
    where
      by_first : (x : Bool) → is_regular d ≡ x → bare (a ++ c ∷ t) ≡ bare a ++ c ∷ bare t →
          ((u : List ℕ) → length u < length (d ∷ a) → bare (u ++ c ∷ t) ≡ bare u ++ c ∷ bare t) → bare (d ∷ a ++ c ∷ t) ≡ bare (d ∷ a) ++ c ∷ bare t
      by_first false k h later = break_stays d (a ++ c ∷ t) k ∙ (ap (λ (u : List ℕ). d ∷ u) h ∙ ap (λ (u : List ℕ). u ++ c ∷ bare t) (sym (break_stays d a k)))
      by_first true k h later =
          let x = parted is_regular (d ∷ a) in
          let some = parted_some is_regular d a k in
          let less = later x.1 (omega (arith, some, ap length (parted_whole is_regular (d ∷ a)), length-append x.0 x.1)) in
          word_first d (a ++ c ∷ t) k
          ∙ (ap (λ (y : List ℕ × List ℕ). renamed name y.0 ++ bare y.1) (parted_apart is_regular (d ∷ a) c t e)
          ∙ (ap (λ (u : List ℕ). renamed name x.0 ++ u) less
          ∙ (sym (append_assoc (renamed name x.0) (bare x.1) (c ∷ bare t)) ∙ ap (λ (u : List ℕ). u ++ c ∷ bare t) (sym (word_first d a k)))))

  -- each word by itself
  abbrev bare_words : List ℕ → List (List ℕ)
  bare_words w = untagged_words (Some name) w

  -- a word of its own loses its tags
  one_word : (a : List ℕ) → words (bare a) ≡ flat_map bare_words (some_word a)
  unfolding words_behind
  one_word [] = refl
  one_word (b ∷ a) = sym (append-nil (words (bare (b ∷ a))))

  -- a byte that is no blank is solid, and so are the bytes of a front
  all_solid : (a : List ℕ) → AllByRecursion (λ b. is_solid b ≡ true) a → AllSolid a
  all_solid [] h = tt
  all_solid (b ∷ a) h = (not_true (is_blank b) h.0, all_solid a h.1)

  -- a solid text is one word, or none
  solid_word : (a : List ℕ) → AllSolid a → words a ≡ some_word a
  unfolding words_behind
  solid_word a h = ap words (sym (append-nil a)) ∙ solid_behind [] a [] h

  each_bare : (n : ℕ) (t : List ℕ) → length t ≤ n → words (bare t) ≡ flat_map bare_words (words t)
  unfolding words_behind
  each_bare n [] le = refl
  each_bare zero (b ∷ bs) le = absurd (omega (arith, le))
  each_bare (suc n) (b ∷ bs) le =
      let x = parted is_solid (b ∷ bs) in
      by_rest x.0 x.1 (parted_whole is_solid (b ∷ bs)) (all_solid x.0 (front_passes is_solid (b ∷ bs))) (front_stops is_solid (b ∷ bs))
      (λ r less. each_bare n r (omega (arith, le, less)))
    where
      text : List ℕ
      text = b ∷ bs

      by_rest : (a rest : List ℕ) → text ≡ a ++ rest → AllSolid a → Stops is_solid rest →
          ((r : List ℕ) → length r < length text → words (bare r) ≡ flat_map bare_words (words r)) → words (bare text) ≡ flat_map bare_words (words text)
      by_rest a [] whole solid stop later =
          let all : text ≡ a = whole ∙ append-nil a in
          ap (λ (u : List ℕ). words (bare u)) all ∙ (one_word a ∙ ap (flat_map bare_words) (sym (ap words all ∙ solid_word a solid)))
      by_rest a (c ∷ r) whole solid stop later =
          let blank : is_blank c ≡ true = was_blank (is_blank c) stop in
          let more = later r (omega (arith, ap length whole, length-append a (c ∷ r))) in
          ap (λ (u : List ℕ). words (bare u)) whole
          ∙ (ap words (bare_apart (length a) a c r (omega arith) (blank_breaks c blank))
          ∙ (words_apart [] (bare a) c (bare r) blank
          ∙ ((λ i. one_word a i ++ more i)
          ∙ (sym (flat_map-append bare_words (some_word a) (words r))
          ∙ ap (flat_map bare_words)
          (ap (λ (l : List (List ℕ)). l ++ words r) (sym (solid_word a solid)) ∙ sym (ap words whole ∙ words_apart [] a c r blank))))))
        where
          was_blank : (x : Bool) → not x ≡ false → x ≡ true
          was_blank true h = refl
          was_blank false h = absurd (true≢false h)

pub bare_words_are : (name t : List ℕ) → words (text_untagged name t) ≡ flat_map (untagged_words (Some name)) (words t)
bare_words_are name t = each_bare name (length t) t (omega arith)

-- ---- texts of a font

-- words that are renewed, and then lose tags
pub tags_go : (name : List ℕ) (old mid : List (List ℕ)) → Renews None old mid → Renews (Some name) old (flat_map (untagged_words (Some name)) mid)
unfolding words_behind
tags_go name _ _ none = none
tags_go name _ _ (stays w old new h) = stays w old (flat_map (untagged_words (Some name)) new) (tags_go name old new h)
tags_go name _ _ (goes line old new k h) = goes line old (flat_map (untagged_words (Some name)) new) k (tags_go name old new h)
tags_go name _ _ (empties line old new k h) = empties line old (flat_map (untagged_words (Some name)) new) k (tags_go name old new h)
