-- Pieces of a text, each of whole lines: what is open behind them, and which of their lines are structure.
use Rattle.std.proofs.Common.{◌≡◌, ℕ, ◌==◌, Bool, true, false, cond, List, [], ◌∷◌, ◌++◌, refl, sym, ap, subst, ◌∙◌, inl, inr}
use Rattle.std.proofs.lemmas.{Bool.{cases_Bool}, List.{append-nil}}
use Rattle.std.specs.{Prelude.{◌||◌, ◌&&◌, not}, List.{list_any}}
use Rattle.t1_document.{specs.{declared.marks.Open.{Open}, Lines.{lf_comes, line_closes, is_line_end, no_bytes, into_first, lines_of, breaks}}}
use Rattle.t1_document.proofs.LineLemmas.{lines_apart, breaks_behind, breaks-nil, breaks-append}
use Rattle.t1_dsc.specs.{declared.lines.Role.TheVariants.{Text}, Structure.{Line, same_role, role_in, open_past, lines_from, open_from}, Laws.{structure_lines}}

-- ---- lines on both sides

lines_from-append : (o : Open) (xs ys : List (List ℕ)) → lines_from o (xs ++ ys) ≡ lines_from o xs ++ lines_from (open_from o xs) ys
unfolding lines_from open_from
lines_from-append o [] ys = refl
lines_from-append o (x ∷ xs) ys = ap (λ (ls : List Line). record { text = x; role = role_in o x } ∷ ls) (lines_from-append (open_past o x) xs ys)

open_from-append : (o : Open) (xs ys : List (List ℕ)) → open_from o (xs ++ ys) ≡ open_from (open_from o xs) ys
unfolding open_from
open_from-append o [] ys = refl
open_from-append o (x ∷ xs) ys = open_from-append (open_past o x) xs ys

structure-append : (xs ys : List Line) → structure_lines (xs ++ ys) ≡ structure_lines xs ++ structure_lines ys
structure-append [] ys = refl
structure-append (x ∷ xs) ys = elim (cases_Bool (same_role Text x.role)) [
  | inl e ↦ rw e (structure-append xs ys)
  | inr e ↦ rw e (ap (λ (ls : List (List ℕ)). x.text ∷ ls) (structure-append xs ys))
]

-- ---- pieces

-- a text that is read where `o` is open leaves `p` open, and these of its lines are structure; a line ends behind it before each byte but LF
pub record Piece (o : Open) (text : List ℕ) (p : Open) (structure : List (List ℕ)) : Type 0 where
  pub lines : structure_lines (lines_from o (lines_of text)) ≡ structure
  pub state : open_from o (lines_of text) ≡ p
  pub ends : (b : ℕ) (bs : List ℕ) → (b == 10) ≡ false → breaks text (b ∷ bs) ≡ true

-- nothing
pub no_piece : (o : Open) → Piece o [] o []
unfolding lines_from open_from lines_of
no_piece o = record { lines = refl; state = refl; ends = λ b bs h. refl }

-- a text of which a line ends before any other
abbrev pub Full : List ℕ → Type 0
Full text = (behind : List ℕ) → breaks text behind ≡ true

both_read : (o p q : Open) (a b : List ℕ) (s t : List (List ℕ)) → breaks a b ≡ true → Piece o a p s → Piece p b q t →
    structure_lines (lines_from o (lines_of (a ++ b))) ≡ s ++ t
both_read o p q a b s t h x y =
    ap (λ (ls : List (List ℕ)). structure_lines (lines_from o ls)) (lines_apart a b h)
    ∙ (ap structure_lines (lines_from-append o (lines_of a) (lines_of b))
    ∙ (structure-append (lines_from o (lines_of a)) (lines_from (open_from o (lines_of a)) (lines_of b))
    ∙ (ap (λ (ls : List (List ℕ)). ls ++ structure_lines (lines_from (open_from o (lines_of a)) (lines_of b))) x.lines
    ∙ (ap (λ (r : Open). s ++ structure_lines (lines_from r (lines_of b))) x.state ∙ ap (λ (ls : List (List ℕ)). s ++ ls) y.lines))))

both_open : (o p q : Open) (a b : List ℕ) (s t : List (List ℕ)) → breaks a b ≡ true → Piece o a p s → Piece p b q t → open_from o (lines_of (a ++ b)) ≡ q
both_open o p q a b s t h x y =
    ap (open_from o) (lines_apart a b h)
    ∙ (open_from-append o (lines_of a) (lines_of b) ∙ (ap (λ (r : Open). open_from r (lines_of b)) x.state ∙ y.state))

both_end : (a b : List ℕ) → breaks a b ≡ true → ((c : ℕ) (cs : List ℕ) → (c == 10) ≡ false → breaks a (c ∷ cs) ≡ true) →
    ((c : ℕ) (cs : List ℕ) → (c == 10) ≡ false → breaks b (c ∷ cs) ≡ true) → (c : ℕ) (cs : List ℕ) → (c == 10) ≡ false → breaks (a ++ b) (c ∷ cs) ≡ true
both_end a [] h x y c cs e = subst (λ (t : List ℕ). breaks t (c ∷ cs) ≡ true) (sym (append-nil a)) (x c cs e)
both_end a (b ∷ bs) h x y c cs e = breaks-append a (b ∷ bs) (c ∷ cs) (still a h) (y c cs e)
  where
    still : (t : List ℕ) → breaks t (b ∷ bs) ≡ true → breaks t (b ∷ (bs ++ c ∷ cs)) ≡ true
    still [] k = refl
    still (t ∷ []) k = again bs k
      where
        again : (us : List ℕ) → (false || line_closes t (b ∷ us)) ≡ true → (false || line_closes t (b ∷ (us ++ c ∷ cs))) ≡ true
        again us k = k
    still (t ∷ u ∷ us) k = still (u ∷ us) k

-- two pieces between which a line ends
pub both : (o p q : Open) (a b : List ℕ) (s t : List (List ℕ)) → breaks a b ≡ true → Piece o a p s → Piece p b q t → Piece o (a ++ b) q (s ++ t)
both o p q a b s t h x y = record { lines = both_read o p q a b s t h x y; state = both_open o p q a b s t h x y; ends = both_end a b h x.ends y.ends }

-- a full piece before another
pub full_then : (o p q : Open) (a b : List ℕ) (s t : List (List ℕ)) → Full a → Piece o a p s → Piece p b q t → Piece o (a ++ b) q (s ++ t)
full_then o p q a b s t f x y = both o p q a b s t (f b) x y

-- a piece before one that doesn't begin with LF
pub then_other : (o p q : Open) (a b : List ℕ) (s t : List (List ℕ)) → lf_comes b ≡ false → Piece o a p s → Piece p b q t → Piece o (a ++ b) q (s ++ t)
then_other o p q a [] s t h x y = both o p q a [] s t (breaks-nil a) x y
then_other o p q a (b ∷ bs) s t h x y = both o p q a (b ∷ bs) s t (x.ends b bs h) x y

-- ---- one line

or_true : (b : Bool) → (b || true) ≡ true
or_true true = refl
or_true false = refl

-- a text that ends with LF is full
pub lf_full : (front : List ℕ) → Full (front ++ 10 ∷ [])
lf_full front behind = breaks_behind front 10 behind ∙ or_true (no_bytes behind)

-- so is what stands before one that is, and has bytes
pub full_behind : (a : List ℕ) (b : ℕ) (bs : List ℕ) → Full (b ∷ bs) → Full (a ++ b ∷ bs)
full_behind [] b bs f behind = f behind
full_behind (x ∷ []) b bs f behind = f behind
full_behind (x ∷ y ∷ a) b bs f behind = full_behind (y ∷ a) b bs f behind

-- bytes that end no line, and LF behind them, are one line
pub one_line : (u : List ℕ) → list_any is_line_end u ≡ false → lines_of (u ++ 10 ∷ []) ≡ (u ++ 10 ∷ []) ∷ []
unfolding lines_of
one_line [] h = refl
one_line (b ∷ u) h = inner (is_line_end b) refl h (one_line u)
  where
    closes_not : (rest : List ℕ) → is_line_end b ≡ false → line_closes b rest ≡ false
    closes_not rest k = by_parts (b == 10) (b == 13) (not (lf_comes rest)) k
      where
        by_parts : (x y z : Bool) → (x || y) ≡ false → (x || (y && z)) ≡ false
        by_parts true y z e = e
        by_parts false true z e = absurd cc
        by_parts false false z e = refl

    inner : (e : Bool) → is_line_end b ≡ e → (e || list_any is_line_end u) ≡ false →
        (list_any is_line_end u ≡ false → lines_of (u ++ 10 ∷ []) ≡ (u ++ 10 ∷ []) ∷ []) →
        cond (line_closes b (u ++ 10 ∷ [])) ((b ∷ []) ∷ lines_of (u ++ 10 ∷ [])) (into_first b (lines_of (u ++ 10 ∷ []))) ≡ (b ∷ (u ++ 10 ∷ [])) ∷ []
    inner true k e later = absurd cc
    inner false k e later = rw (closes_not (u ++ 10 ∷ []) k, later e) refl

-- a whole line that is text and leaves what is open
pub text_line : (o : Open) (t : List ℕ) → lines_of t ≡ t ∷ [] → role_in o t ≡ Text → open_past o t ≡ o →
    ((b : ℕ) (bs : List ℕ) → (b == 10) ≡ false → breaks t (b ∷ bs) ≡ true) → Piece o t o []
unfolding lines_from open_from
text_line o t one role state ends = record { lines = rw (one, role) refl; state = rw one state; ends = ends }

-- a whole line that is structure
pub structure_line : (o : Open) (t : List ℕ) → lines_of t ≡ t ∷ [] → same_role Text (role_in o t) ≡ false → open_past o t ≡ o →
    ((b : ℕ) (bs : List ℕ) → (b == 10) ≡ false → breaks t (b ∷ bs) ≡ true) → Piece o t o (t ∷ [])
unfolding lines_from open_from
structure_line o t one role state ends = record { lines = rw (one, role) refl; state = rw one state; ends = ends }
