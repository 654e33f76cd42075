-- The loop that goes over the lines before the first mark.
use Rattle.std.proofs.Common.{◌≡◌, ℕ, ◌+◌, ◌<◌, ◌≤◌, true, false, List, [], ◌∷◌, ◌++◌, length, take, drop, Option, Some, None, is_some, refl, sym, ap, subst, ◌∙◌, arith}
use Rattle.std.proofs.lemmas.List.{take_at, take-append-drop, length-append, length-take-le, length-drop, drop-drop, drop_all}
use Rattle.t1_document.specs.{declared.marks.Mark.{Mark}, Lines.{lines_of, line_len, line_of}, Marks.{mark_of}, Stretches.{Stretches, stretches, stretches_bytes}}
use Rattle.t1_document.proofs.{LineLemmas.{line_within, line_has}, StretchLemmas.{past_line, at_mark, mark_has, front_whole, behind_front}}

is_there : {A : Type 0} (o : Option A) → is_some o ≡ true → (x : A) × (o ≡ Some x)
is_there None h = absurd cc
is_there (Some x) h = (x, refl)

is_absent : {A : Type 0} (o : Option A) → is_some o ≡ false → o ≡ None
is_absent None h = refl
is_absent (Some x) h = absurd cc

-- at a mark nothing more stands before it
pub front_stops : (bytes : List ℕ) (len n : ℕ) → len < length bytes → len + length (stretches (drop len bytes)).0 ≡ n →
    is_some (mark_of (line_of (drop len bytes)).0) ≡ true → len ≡ n
front_stops bytes len n room so_far found =
    let t = drop len bytes in
    let m = is_there (mark_of (line_of t).0) found in
    let none : length (stretches t).0 ≡ 0 = ap (λ (x : Stretches). length x.0) (at_mark t (omega (arith, length-drop len bytes)) m.0 m.1) in
    omega (arith, none)

line_bytes : (t : List ℕ) → 0 < length t → 1 ≤ line_len t
line_bytes [] h = absurd (omega arith)
line_bytes (b ∷ bs) h = line_has b bs

-- what is so far, one line further
pub record Passed (bytes : List ℕ) (len n k : ℕ) : Type 0 where
  pub some : 1 ≤ k
  pub within : len + k ≤ length bytes
  pub before : (len + k) + length (stretches (drop (len + k) bytes)).0 ≡ n

-- past a line that is no mark
pub front_more : (bytes : List ℕ) (len n : ℕ) → len < length bytes → len + length (stretches (drop len bytes)).0 ≡ n →
    is_some (mark_of (line_of (drop len bytes)).0) ≡ false → Passed bytes len n (length (line_of (drop len bytes)).0)
front_more bytes len n room so_far absent =
    let t = drop len bytes in
    let k = line_len t in
    let has : 0 < length t = omega (arith, length-drop len bytes) in
    let front : length (stretches t).0 ≡ length ((line_of t).0 ++ (stretches (line_of t).1).0) =
    ap (λ (x : Stretches). length x.0) (past_line t has (is_absent (mark_of (line_of t).0) absent)) in
    let size : length (take k t) ≡ k = length-take-le k t (line_within t) in
    let rest : drop k t ≡ drop (len + k) bytes = drop-drop k len bytes in
    let step : (len + k) + length (stretches (drop (len + k) bytes)).0 ≡ n =
    subst (λ (u : List ℕ). (len + k) + length (stretches u).0 ≡ n) rest
    (omega (arith, front, so_far, size, length-append (take k t) (stretches (drop k t)).0)) in
    subst (λ (j : ℕ). Passed bytes len n j) (sym size)
    (record { some = line_bytes t has; within = omega (arith, line_within t, length-drop len bytes); before = step })

nothing_before : length (stretches []).0 ≡ 0
unfolding stretches lines_of
nothing_before = refl

-- at the end of the text
pub front_ends : (bytes : List ℕ) (len n : ℕ) → length bytes ≤ len → len + length (stretches (drop len bytes)).0 ≡ n → len ≡ n
front_ends bytes len n all so_far =
    let none : length (stretches (drop len bytes)).0 ≡ 0 = ap (λ (u : List ℕ). length (stretches u).0) (drop_all len bytes all) ∙ nothing_before in
    omega (arith, none, so_far)

-- ---- one stretch

-- what is known of the stretch that bytes begin with
pub record First (bytes line text behind : List ℕ) (m : Mark) : Type 0 where
  pub first : stretches bytes ≡ ([], record { mark = m; line = line; text = text } ∷ (stretches behind).1)
  pub whole : bytes ≡ line ++ (text ++ behind)
  pub none : (stretches behind).0 ≡ []
  pub shorter : length behind < length bytes

-- the stretch of a first line that is a mark, and of the text behind it
pub stretch_first : (bytes line rest text behind : List ℕ) (m : Mark) → (line, rest) ≡ line_of bytes → mark_of line ≡ Some m →
    text ≡ take (length (stretches rest).0) rest → behind ≡ drop (length (stretches rest).0) rest → First bytes line text behind m
stretch_first bytes line rest text behind m parts mark front back =
    let at : line ≡ (line_of bytes).0 = ap (λ (x : List ℕ × List ℕ). x.0) parts in
    let after : rest ≡ (line_of bytes).1 = ap (λ (x : List ℕ × List ℕ). x.1) parts in
    let is : mark_of (line_of bytes).0 ≡ Some m = ap mark_of (sym at) ∙ mark in
    let has : 0 < length bytes = mark_has bytes m is in
    let own : text ≡ (stretches rest).0 =
    front ∙ (ap (take (length (stretches rest).0)) (front_whole rest) ∙ take_at (stretches rest).0 (stretches_bytes (stretches rest).1) _ refl) in
    let left : stretches behind ≡ ([], (stretches rest).1) = ap stretches back ∙ behind_front rest in
    let whole : stretches bytes ≡ ([], record { mark = m; line = line; text = (stretches rest).0 } ∷ (stretches rest).1) =
    at_mark bytes has m is ∙ rw (at, after) refl in
    let n = length (stretches rest).0 in
    let parted : rest ≡ text ++ behind = sym (take-append-drop n rest) ∙ rw (front, back) refl in
    let all : bytes ≡ line ++ rest = sym (take-append-drop (line_len bytes) bytes) ∙ rw (at, after) refl in
    record {
      first = whole ∙ rw (own, left) refl;
      whole = all ∙ ap (λ (u : List ℕ). line ++ u) parted;
      none = ap (λ (x : Stretches). x.0) left;
      shorter = omega (
        arith,
        ap length back,
        length-drop (length (stretches rest).0) rest,
        ap length after,
        length-drop (line_len bytes) bytes,
        line_bytes bytes has,
      );
    }
