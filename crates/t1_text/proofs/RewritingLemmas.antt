-- Texts that are rewritten piece by piece: each piece has bytes, and what is put in its place is no longer.
use Rattle.std.proofs.Common.{◌≡◌, is_some, ◌⊎◌, ◌&&◌, ◌||◌, ℕ, zero, suc, ◌≤◌, ◌<◌, arith, Bool, true, false, cond, List, [], ◌∷◌, ◌++◌, length, take, drop, Option, Some, None, inl, inr, refl, sym}
use Rattle.std.proofs.{Common.{ap, subst, ◌∙◌, append_assoc, one-add, true≢false}, lemmas.Bool.{eqb-true}, lemmas.Option.{none-some}}
use Rattle.std.proofs.lemmas.List.{length-append, append-nil, length-drop, take-append-drop}
use Rattle.std.specs.{Prelude.{◌==◌, not}, List.{prefix_len, list_any}}
use Rattle.t1_bytes.specs.{Laws.{AreBytes}, Eexec.{is_blank, blank_comes}}
use Rattle.t1_grammar.specs.{Grammar.{Grammar, Lacks, fixed, unread}, Places.{occurs, absent_lacks}}
use Rattle.t1_text.specs.{declared.rewriting.Step.{Step}, declared.rewriting.Step.TheVariants.{Unnumbered, Untagged}, Words.{is_regular}}
use Rattle.t1_text.specs.{Rewriting.{Piece, pieces, rewritten, parted, TakesPiece, TakesPieces}, Squeezing.{ends_line, one_space, is_solid, squeezed_piece, squeezed, stays, staying}}
use Rattle.t1_text.specs.Identity.{unique_id, extended_id, identity_line, identity_comment, is_in_line, with_end, first_line, without_line, without_comment}
use Rattle.t1_text.specs.{Identity.{unnumbered_piece, unnumbered}, Tags.{untagged, renamed, untagged_piece}}
use Rattle.t1_text.specs.Steps.{piece_of}
use Rattle.t1_text.proofs.{Bytes.{AreBytes-append, bytes_left, bytes_right}, Untested.{both_true, not_true}, TagLemmas.{ends_untagged}}

-- ---- a walk over pieces

-- some pieces are rewritten, and the rest is left
pub record Walked (piece : Piece) (text out rest : List ℕ) : Type 0 where
  pub fuel : ℕ
  pub room : length rest ≤ fuel
  pub same : out ++ pieces piece fuel rest ≡ rewritten piece text

-- before the first piece all is left
pub none_walked : (piece : Piece) (text out : List ℕ) → out ≡ [] → Walked piece text out text
none_walked piece text out none = record { fuel = length text; room = omega arith; same = ap (λ (u : List ℕ). u ++ rewritten piece text) none }

module _ (piece : Piece) (takes : TakesPieces piece) (text out put behind : List ℕ) where
  -- what is left grows shorter
  pub walks_less : (rest : List ℕ) → (length rest == 0) ≡ false → (put, behind) ≡ piece rest → length behind < length rest
  walks_less [] some is = absurd cc
  walks_less (b ∷ bs) some is =
      let t = takes b bs in
      omega (arith, ap length t.whole, length-append t.own (piece (b ∷ bs)).1, t.some, ap (λ x. length x.1) is)

  -- one more piece is rewritten
  pub walks_on : (rest : List ℕ) → (length rest == 0) ≡ false → (put, behind) ≡ piece rest → Walked piece text out rest → Walked piece text (out ++ put) behind
  walks_on [] some is w = absurd cc
  walks_on (b ∷ bs) some is w = by_fuel w.fuel w.room w.same
    where
      less : length behind < length (b ∷ bs)
      less = walks_less (b ∷ bs) some is

      by_fuel : (n : ℕ) → length (b ∷ bs) ≤ n → out ++ pieces piece n (b ∷ bs) ≡ rewritten piece text → Walked piece text (out ++ put) behind
      by_fuel zero room same = absurd (omega (arith, room))
      by_fuel (suc n) room same = record {
        fuel = n;
        room = omega (arith, room, less);
        same = append_assoc out put (pieces piece n behind) ∙ (ap (λ x. out ++ (x.0 ++ pieces piece n x.1)) is ∙ same);
      }

-- where nothing is left, all is rewritten
pub all_walked : (piece : Piece) (text out rest : List ℕ) → (length rest == 0) ≡ true → Walked piece text out rest → out ≡ rewritten piece text
all_walked piece text out (b ∷ bs) none w = absurd (omega (arith, eqb-true (length (b ∷ bs)) 0 none))
all_walked piece text out [] none w = by_fuel w.fuel w.same
  where
    by_fuel : (n : ℕ) → out ++ pieces piece n [] ≡ rewritten piece text → out ≡ rewritten piece text
    by_fuel zero same = sym (append-nil out) ∙ same
    by_fuel (suc n) same = sym (append-nil out) ∙ same

-- ---- what is rewritten is no longer, and is bytes

-- a text that comes of another is no longer, and is bytes where the other is
pub record Shrinks (old new : List ℕ) : Type 0 where
  pub short : length new ≤ length old
  pub bytes : AreBytes old → AreBytes new

pub pieces_shrink : (piece : Piece) → TakesPieces piece → (n : ℕ) (text : List ℕ) → Shrinks text (pieces piece n text)
pieces_shrink piece takes zero text = record { short = omega arith; bytes = λ h. tt }
pieces_shrink piece takes (suc n) [] = record { short = omega arith; bytes = λ h. tt }
pieces_shrink piece takes (suc n) (b ∷ bs) =
    let t = takes b bs in
    let x = piece (b ∷ bs) in
    let rest = pieces_shrink piece takes n x.1 in
    record {
      short = omega (arith, t.short, rest.short, ap length t.whole, length-append t.own x.1, length-append x.0 (pieces piece n x.1));
      bytes = λ h.
          let all = subst AreBytes t.whole h in
          AreBytes-append x.0 (pieces piece n x.1) (t.bytes (bytes_left t.own x.1 all)) (rest.bytes (bytes_right t.own x.1 all));
    }

-- ---- pieces

module _ (p : ℕ → Bool) where
  -- the front whose bytes pass a test, and what stands behind it, are the text
  pub parted_whole : (text : List ℕ) → text ≡ (parted p text).0 ++ (parted p text).1
  parted_whole text = sym (take-append-drop (prefix_len p text) text)

  -- where the first byte passes, the front has bytes
  pub parted_some : (b : ℕ) (bs : List ℕ) → p b ≡ true → 1 ≤ length (parted p (b ∷ bs)).0
  parted_some b bs e = rw (e, one-add) (omega arith)

  -- a front that stays is a piece
  own_part : (b : ℕ) (bs : List ℕ) → p b ≡ true → TakesPiece (b ∷ bs) (parted p (b ∷ bs))
  own_part b bs e = record {
    own = (parted p (b ∷ bs)).0;
    whole = parted_whole (b ∷ bs);
    some = parted_some b bs e;
    short = omega arith;
    bytes = λ h. h;
  }

not_so : (b : Bool) → b ≡ false → not b ≡ true
not_so true e = absurd (true≢false e)
not_so false e = refl

-- one byte takes the place of a run
one_byte : (b : Bool) → let x : List ℕ = cond b (10 ∷ []) (32 ∷ []) in (length x ≡ 1) × AreBytes x
one_byte true = (refl, (omega arith, tt))
one_byte false = (refl, (omega arith, tt))

-- a run of white space, or other bytes
pub squeezed_takes : TakesPieces squeezed_piece
unfolding squeezed_piece
squeezed_takes b bs = by_first (is_blank b) refl
  where
    text : List ℕ
    text = b ∷ bs

    run : List ℕ
    run = (parted is_blank text).0

    by_first : (x : Bool) → is_blank b ≡ x → TakesPiece text (cond x (one_space run, (parted is_blank text).1) (parted is_solid text))
    by_first true e =
        let one = one_byte (list_any ends_line run) in
        record {
          own = run;
          whole = parted_whole is_blank text;
          some = parted_some is_blank b bs e;
          short = omega (arith, parted_some is_blank b bs e, one.0);
          bytes = λ h. one.1;
        }
    by_first false e = own_part is_solid b bs (not_so (is_blank b) e)

-- a word is not shorter than what stands behind its tags
renamed_shrinks : (name word : List ℕ) → Shrinks word (renamed name word)
renamed_shrinks name word = by_test (is_some ((fixed name).read word))
  where
    by_test : (x : Bool) → Shrinks word (cond x (untagged word) word)
    by_test true =
        let ends = ends_untagged (length word) word in
        record {
          short = omega (arith, ap length ends.1, length-append ends.0 (untagged word));
          bytes = λ h. bytes_right ends.0 (untagged word) (subst AreBytes ends.1 h);
        }
    by_test false = record { short = omega arith; bytes = λ h. h }

-- a word, or what stands between words
pub untagged_takes : (name : List ℕ) → TakesPieces (untagged_piece name)
untagged_takes name b bs = by_first (is_regular b) refl
  where
    text : List ℕ
    text = b ∷ bs

    word : List ℕ
    word = (parted is_regular text).0

    by_first : (x : Bool) → is_regular b ≡ x →
        TakesPiece text (cond x (renamed name word, (parted is_regular text).1) (parted (λ b. not (is_regular b)) text))
    by_first true e =
        let less = renamed_shrinks name word in
        record {
          own = word;
          whole = parted_whole is_regular text;
          some = parted_some is_regular b bs e;
          short = less.short;
          bytes = less.bytes;
        }
    by_first false e = own_part (λ b. not (is_regular b)) b bs (not_so (is_regular b) e)

-- a line that numbers its font has bytes
pub numbered_some : (text rest : List ℕ) → identity_line.Spells tt text rest → 1 ≤ length text
unfolding unique_id extended_id identity_line
numbered_some text rest s = elim s.4 [
  | inl u ↦ let ten = ap length u.4.0.0 ∙ u.4.0.1 in omega (arith, ap length s.3, length-append s.1 s.2, ap length u.3, length-append u.1 u.2, ten)
  | inr u ↦ let ten = ap length u.0.4.0.0 ∙ u.0.4.0.1 in
      omega (arith, ap length s.3, length-append s.1 s.2, ap length u.0.3, length-append u.0.1 u.0.2, ten)
]

-- a comment that numbers its font has two bytes
pub commented_two : (text rest : List ℕ) → identity_comment.Spells tt text rest → 2 ≤ length text
unfolding identity_comment
commented_two text rest s =
    let one = ap length s.4.0.0 ∙ s.4.0.1 in
    omega (arith, ap length s.3, length-append s.1 s.2, one, numbered_some s.2 rest s.5)

-- a line and what stands behind it are the text
pub line_whole : (b : ℕ) (bs : List ℕ) → b ∷ bs ≡ (first_line (b ∷ bs)).0 ++ (first_line (b ∷ bs)).1
line_whole b bs = by_end (parted is_in_line (b ∷ bs)).0 (parted is_in_line (b ∷ bs)).1 (parted_whole is_in_line (b ∷ bs))
  where
    by_end : (body rest : List ℕ) → b ∷ bs ≡ body ++ rest → b ∷ bs ≡ (with_end body rest).0 ++ (with_end body rest).1
    by_end body [] whole = whole
    by_end body (c ∷ rest) whole = whole ∙ sym (append_assoc body (c ∷ []) rest)

-- a line has bytes
pub line_takes : (b : ℕ) (bs : List ℕ) → TakesPiece (b ∷ bs) (first_line (b ∷ bs))
line_takes b bs = by_end (parted is_in_line (b ∷ bs)).0 (parted is_in_line (b ∷ bs)).1 (parted_whole is_in_line (b ∷ bs))
  where
    by_end : (body rest : List ℕ) → b ∷ bs ≡ body ++ rest → TakesPiece (b ∷ bs) (with_end body rest)
    by_end body [] whole = record {
      own = body;
      whole = whole;
      some = omega (arith, ap length whole, length-append body []);
      short = omega arith;
      bytes = λ h. h;
    }
    by_end body (c ∷ rest) whole = record {
      own = body ++ c ∷ [];
      whole = whole ∙ sym (append_assoc body (c ∷ []) rest);
      some = omega (arith, length-append body (c ∷ []));
      short = omega arith;
      bytes = λ h. h;
    }

-- a line, or nothing in place of one that numbers the font, or `%` in place of such a comment
pub unnumbered_takes : TakesPieces unnumbered_piece
unfolding unnumbered_piece
unnumbered_takes b bs = by_comment (identity_comment.read (b ∷ bs)) refl
  where
    by_line : (o : Option (Unit {0} × List ℕ)) → identity_line.read (b ∷ bs) ≡ o → TakesPiece (b ∷ bs) (without_line (b ∷ bs) o)
    by_line None e = line_takes b bs
    by_line (Some x) e =
        let s = identity_line.takes (b ∷ bs) x e in
        record {
          own = s.0;
          whole = s.1;
          some = numbered_some s.0 x.1 s.2;
          short = omega arith;
          bytes = λ h. tt;
        }

    by_comment : (o : Option (Unit {0} × List ℕ)) → identity_comment.read (b ∷ bs) ≡ o → TakesPiece (b ∷ bs) (without_comment (b ∷ bs) o)
    by_comment None e = by_line (identity_line.read (b ∷ bs)) refl
    by_comment (Some x) e =
        let s = identity_comment.takes (b ∷ bs) x e in
        let two = commented_two s.0 x.1 s.2 in
        record {
          own = s.0;
          whole = s.1;
          some = omega (arith, two);
          short = two;
          bytes = λ h. (omega arith, (omega arith, tt));
        }

-- the pieces of each step
pub step_takes : (step : Step) → TakesPieces (piece_of step)
step_takes Unnumbered = unnumbered_takes
step_takes (Untagged name) = untagged_takes name.now

-- ---- one piece of a text

-- a text is rewritten the same way whatever more pieces it might have
enough : (piece : Piece) → TakesPieces piece → (n m : ℕ) (text : List ℕ) → length text ≤ n → length text ≤ m → pieces piece n text ≡ pieces piece m text
enough piece takes zero zero text le le2 = refl
enough piece takes zero (suc m) [] le le2 = refl
enough piece takes zero (suc m) (b ∷ bs) le le2 = absurd (omega (arith, le))
enough piece takes (suc n) zero [] le le2 = refl
enough piece takes (suc n) zero (b ∷ bs) le le2 = absurd (omega (arith, le2))
enough piece takes (suc n) (suc m) [] le le2 = refl
enough piece takes (suc n) (suc m) (b ∷ bs) le le2 =
    let t = takes b bs in
    let x = piece (b ∷ bs) in
    let less : length x.1 < length (b ∷ bs) = omega (arith, ap length t.whole, length-append t.own x.1, t.some) in
    ap (λ (u : List ℕ). x.0 ++ u) (enough piece takes n m x.1 (omega (arith, le, less)) (omega (arith, le2, less)))

-- what is put in place of the first piece, and the rest rewritten
pub one_piece : (piece : Piece) → TakesPieces piece → (b : ℕ) (bs : List ℕ) →
    rewritten piece (b ∷ bs) ≡ (piece (b ∷ bs)).0 ++ rewritten piece (piece (b ∷ bs)).1
one_piece piece takes b bs =
    let t = takes b bs in
    let x = piece (b ∷ bs) in
    let less : length x.1 < length (b ∷ bs) = omega (arith, ap length t.whole, length-append t.own x.1, t.some) in
    ap (λ (u : List ℕ). x.0 ++ u) (enough piece takes (length bs) (length x.1) x.1 (omega (arith, less)) (omega arith))

-- ---- bytes that stay

-- the piece at a byte that is white space, and at one that isn't
pub piece_at : (b : ℕ) (bs : List ℕ) (x : Bool) → is_blank b ≡ x →
    squeezed_piece (b ∷ bs) ≡ cond x (one_space (parted is_blank (b ∷ bs)).0, (parted is_blank (b ∷ bs)).1) (parted is_solid (b ∷ bs))
unfolding squeezed_piece
piece_at b bs x e = ap (λ (y : Bool). cond y (one_space (parted is_blank (b ∷ bs)).0, (parted is_blank (b ∷ bs)).1) (parted is_solid (b ∷ bs))) e

-- what stands behind a byte that isn't white space begins with the rest of its run
solid_rest : (bs : List ℕ) → squeezed bs ≡ (parted is_solid bs).0 ++ squeezed (parted is_solid bs).1
solid_rest [] = refl
solid_rest (c ∷ cs) = by_first (is_blank c) refl
  where
    by_first : (x : Bool) → is_blank c ≡ x → squeezed (c ∷ cs) ≡ (parted is_solid (c ∷ cs)).0 ++ squeezed (parted is_solid (c ∷ cs)).1
    by_first true e = let no : is_solid c ≡ false = ap not e in rw (no) refl
    by_first false e = one_piece squeezed_piece squeezed_takes c cs ∙ ap (λ (y : List ℕ × List ℕ). y.0 ++ squeezed y.1) (piece_at c cs false e)

-- a front that goes on with one byte more
pub parted_next : (p : ℕ → Bool) (b : ℕ) (bs : List ℕ) → p b ≡ true → parted p (b ∷ bs) ≡ (b ∷ (parted p bs).0, (parted p bs).1)
parted_next p b bs e = rw (e, one-add) refl

-- a byte that isn't white space stays
pub solid_stays : (b : ℕ) (bs : List ℕ) → is_blank b ≡ false → squeezed (b ∷ bs) ≡ b ∷ squeezed bs
solid_stays b bs e =
    one_piece squeezed_piece squeezed_takes b bs
    ∙ (ap (λ (y : List ℕ × List ℕ). y.0 ++ squeezed y.1) (piece_at b bs false e ∙ parted_next is_solid b bs (ap not e))
    ∙ ap (λ (u : List ℕ). b ∷ u) (sym (solid_rest bs)))

-- no white space is at the front of a text where none comes
no_blank : (bs : List ℕ) → blank_comes bs ≡ false → parted is_blank bs ≡ ([], bs)
no_blank [] h = refl
no_blank (c ∷ cs) h = rw h refl

-- one blank, or one LF, is what becomes of it
one_is : (b : ℕ) → (b == 32 || b == 10) ≡ true → one_space (b ∷ []) ≡ b ∷ []
one_is b h = by_blank (b == 32) refl h
  where
    by_blank : (x : Bool) → (b == 32) ≡ x → (x || b == 10) ≡ true → one_space (b ∷ []) ≡ b ∷ []
    by_blank true e k = subst (λ (c : ℕ). one_space (c ∷ []) ≡ c ∷ []) (sym (eqb-true b 32 e)) refl
    by_blank false e k = subst (λ (c : ℕ). one_space (c ∷ []) ≡ c ∷ []) (sym (eqb-true b 10 k)) refl

-- a blank or LF before other bytes stays
blank_stays : (b : ℕ) (bs : List ℕ) → is_blank b ≡ true → (b == 32 || b == 10) ≡ true → blank_comes bs ≡ false → squeezed (b ∷ bs) ≡ b ∷ squeezed bs
blank_stays b bs e one none =
    let front : parted is_blank (b ∷ bs) ≡ (b ∷ [], bs) = parted_next is_blank b bs e ∙ ap (λ (y : List ℕ × List ℕ). (b ∷ y.0, y.1)) (no_blank bs none) in
    one_piece squeezed_piece squeezed_takes b bs
    ∙ (ap (λ (y : List ℕ × List ℕ). y.0 ++ squeezed y.1) (piece_at b bs true e)
    ∙ (ap (λ (y : List ℕ × List ℕ). one_space y.0 ++ squeezed y.1) front ∙ ap (λ (u : List ℕ). u ++ squeezed bs) (one_is b one)))

-- a byte that stays does
one_stays : (b : ℕ) (bs : List ℕ) → stays b bs ≡ true → squeezed (b ∷ bs) ≡ b ∷ squeezed bs
one_stays b bs h = by_blank (is_blank b) refl h
  where
    by_blank : (x : Bool) → is_blank b ≡ x → (not x || ((b == 32 || b == 10) && not (blank_comes bs))) ≡ true → squeezed (b ∷ bs) ≡ b ∷ squeezed bs
    by_blank false e k = solid_stays b bs e
    by_blank true e k =
        let both = both_true (b == 32 || b == 10) (not (blank_comes bs)) k in
        blank_stays b bs e both.0 (not_true (blank_comes bs) both.1)

-- as many bytes as stay are copied
pub all_stay : (t : List ℕ) → squeezed t ≡ take (staying t) t ++ squeezed (drop (staying t) t)
all_stay [] = refl
all_stay (b ∷ bs) = by_first (stays b bs) refl (all_stay bs)
  where
    by_first : (x : Bool) → stays b bs ≡ x → squeezed bs ≡ take (staying bs) bs ++ squeezed (drop (staying bs) bs) →
        squeezed (b ∷ bs) ≡ take (cond x (suc (staying bs)) 0) (b ∷ bs) ++ squeezed (drop (cond x (suc (staying bs)) 0) (b ∷ bs))
    by_first false e rest = refl
    by_first true e rest = one_stays b bs e ∙ ap (λ (u : List ℕ). b ∷ u) rest

-- ---- squeezing

-- some of a text is squeezed, and the rest is left
abbrev pub SqueezedSoFar : List ℕ → List ℕ → List ℕ → Type 0
SqueezedSoFar text out rest = out ++ squeezed rest ≡ squeezed text

-- what is put in place of the piece behind the bytes that stay
piece_behind : (behind put left : List ℕ) → (put, left) ≡ squeezed_piece behind → squeezed behind ≡ put ++ squeezed left
unfolding squeezed_piece
piece_behind [] put left is = ap (λ (y : List ℕ × List ℕ). y.0 ++ squeezed y.1) (sym is)
piece_behind (c ∷ cs) put left is =
    one_piece squeezed_piece squeezed_takes c cs ∙ ap (λ (y : List ℕ × List ℕ). y.0 ++ squeezed y.1) (sym is)

-- less is left behind it
piece_less : (behind put left : List ℕ) → (put, left) ≡ squeezed_piece behind → (length left < length behind) ⊎ (length left ≡ 0)
unfolding squeezed_piece
piece_less [] put left is = inr (ap (λ (y : List ℕ × List ℕ). length y.1) is)
piece_less (c ∷ cs) put left is =
    let t = squeezed_takes c cs in
    inl (omega (arith, ap length t.whole, length-append t.own (squeezed_piece (c ∷ cs)).1, t.some, ap (λ (y : List ℕ × List ℕ). length y.1) is))

module _ (text out rest kept behind put left : List ℕ) (some : (length rest == 0) ≡ false)
    (front : kept ≡ take (staying rest) rest) (back : behind ≡ drop (staying rest) rest) (is : (put, left) ≡ squeezed_piece behind) where
  -- more is squeezed
  pub squeezed_on : SqueezedSoFar text out rest → SqueezedSoFar text ((out ++ kept) ++ put) left
  squeezed_on h =
      append_assoc (out ++ kept) put (squeezed left)
      ∙ (append_assoc out kept (put ++ squeezed left)
      ∙ (ap (λ (u : List ℕ). out ++ (kept ++ u)) (sym (piece_behind behind put left is))
      ∙ ((λ i. out ++ (front i ++ squeezed (back i)))
      ∙ (ap (λ (u : List ℕ). out ++ u) (sym (all_stay rest)) ∙ h))))

  -- less is left
  pub squeezed_less : length left < length rest
  squeezed_less = elim (piece_less behind put left is) [
    | inl h ↦ omega (arith, h, ap length back, length-drop (staying rest) rest)
    | inr h ↦ some_left rest some h
  ]
    where
      some_left : (r : List ℕ) → (length r == 0) ≡ false → length left ≡ 0 → length left < length r
      some_left [] s h = absurd cc
      some_left (b ∷ bs) s h = omega (arith, h)

-- when nothing is left, all is squeezed
pub all_squeezed : (text out rest : List ℕ) → (length rest == 0) ≡ true → SqueezedSoFar text out rest → out ≡ squeezed text
all_squeezed text out [] none h = sym (append-nil out) ∙ h
all_squeezed text out (b ∷ bs) none h = absurd (omega (arith, eqb-true (length (b ∷ bs)) 0 none))

-- ---- texts without numbers

-- what stands nowhere in a text stands nowhere behind a front of it
lacks_behind : {A : Type 0} (g : Grammar A) (own rest : List ℕ) → Lacks g (own ++ rest) → Lacks g rest
lacks_behind g [] rest lacks = lacks
lacks_behind g (b ∷ own) rest lacks = lacks_behind g own rest (λ k. lacks (suc k))

module _ (text : List ℕ) (no_unique : Lacks unique_id text) (no_extended : Lacks extended_id text) where
  -- no line numbers a font at the front
  no_line : identity_line.read text ≡ None
  unfolding identity_line
  no_line = rw (unread unique_id text (no_unique 0), unread extended_id text (no_extended 0)) refl

-- nor does a comment
no_comment : (text : List ℕ) → Lacks unique_id text → Lacks extended_id text → identity_comment.read text ≡ None
unfolding identity_comment
no_comment text u e = by_read (identity_comment.read text) refl
  where
    by_read : (o : Option (Unit {0} × List ℕ)) → identity_comment.read text ≡ o → o ≡ None
    by_read None h = refl
    by_read (Some x) h =
        let s = identity_comment.takes text x h in
        let c = s.2 in
        let whole : text ≡ c.1 ++ (c.2 ++ x.1) = s.1 ∙ (ap (λ (v : List ℕ). v ++ x.1) c.3 ∙ append_assoc c.1 c.2 x.1) in
        let line = no_line (c.2 ++ x.1) (lacks_behind unique_id c.1 (c.2 ++ x.1) (subst (Lacks unique_id) whole u))
        (lacks_behind extended_id c.1 (c.2 ++ x.1) (subst (Lacks extended_id) whole e)) in
        absurd (none-some (tt, x.1) (sym line ∙ identity_line.again tt c.2 x.1 c.5))

-- what becomes of a line, and of others behind it
abbrev with_others : ℕ → List ℕ × List ℕ → List ℕ
with_others n x = x.0 ++ pieces unnumbered_piece n x.1

lines_stay : (n : ℕ) (text : List ℕ) → length text ≤ n → Lacks unique_id text → Lacks extended_id text → pieces unnumbered_piece n text ≡ text
unfolding unnumbered_piece
lines_stay zero [] le u e = refl
lines_stay zero (b ∷ bs) le u e = absurd (omega (arith, le))
lines_stay (suc n) [] le u e = refl
lines_stay (suc n) (b ∷ bs) le u e =
    let t = line_takes b bs in
    let x = first_line (b ∷ bs) in
    let less : length x.1 < length (b ∷ bs) = omega (arith, ap length t.whole, length-append t.own x.1, t.some) in
    ap (λ (o : Option (Unit {0} × List ℕ)). with_others n (without_comment (b ∷ bs) o)) (no_comment (b ∷ bs) u e)
    ∙ (ap (λ (o : Option (Unit {0} × List ℕ)). with_others n (without_line (b ∷ bs) o)) (no_line (b ∷ bs) u e)
    ∙ (ap (λ (v : List ℕ). x.0 ++ v) (lines_stay n x.1 (omega (arith, le, less))
    (lacks_behind unique_id t.own x.1 (subst (Lacks unique_id) t.whole u)) (lacks_behind extended_id t.own x.1 (subst (Lacks extended_id) t.whole e)))
    ∙ sym (line_whole b bs)))

-- a text in which no number occurs has no line to lose
pub no_numbers : (text : List ℕ) → occurs unique_id text ≡ false → occurs extended_id text ≡ false → text ≡ unnumbered text
no_numbers text u e = sym (lines_stay (length text) text (omega arith) (absent_lacks unique_id text u) (absent_lacks extended_id text e))
