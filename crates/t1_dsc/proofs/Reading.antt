-- The loop that reads the lines of a document.
use Rattle.std.proofs.{Common.{◌≡◌, ◌≤◌, ◌<◌, ◌+◌, ◌==◌, ℕ, Bool, true, false, cond, List, [], ◌∷◌, ◌++◌, length, take, drop, Option, Some, None, refl, sym, ap, subst, ◌∙◌, arith, append_assoc}}
use Rattle.std.proofs.lemmas.{Bool.{eqb-true}, List.{append-nil, length-take-le, length-append, take-append-drop}}
use Rattle.t1_document.specs.{declared.marks.Side.{Side}, declared.marks.Side.TheVariants.{Begin, End}, declared.marks.Mark.{Mark}, declared.marks.Open.{Open}, Lines.{lines_of, line_len, line_of}}
use Rattle.t1_document.specs.{Marks.{open_count, is_document, holds_data, mark_of}, Documents.{none_open}}
use Rattle.t1_document.proofs.LineLemmas.{first_line, line_has, line_within}
use Rattle.t1_dsc.specs.Structure.{Line, role_in, open_with, open_past, lines_from, open_from, lines_in, left_open}

-- ---- how much can be open

one_more : (side : Side) (n : ℕ) → open_count side n ≤ n + 1
one_more Begin n = omega arith
one_more End n = omega arith

count_more : (b : Bool) (side : Side) (n : ℕ) → cond b (open_count side n) n ≤ n + 1
count_more true side n = one_more side n
count_more false side n = omega arith

documents_more : (o : Open) (m : Option Mark) → (open_with o m).documents ≤ o.documents + 1
documents_more o None = omega arith
documents_more o (Some m) = count_more (is_document m.kind) m.side o.documents

raw_more : (o : Open) (m : Option Mark) → (open_with o m).raw ≤ o.raw + 1
raw_more o None = omega arith
raw_more o (Some m) = count_more (holds_data m.kind) m.side o.raw

-- ---- whether bytes are left

pub has_none : (b : Bool) (t : List ℕ) → b ≡ (length t == 0) → b ≡ true → length t ≡ 0
has_none b t e h = eqb-true (length t) 0 (sym e ∙ h)

pub has_bytes : (b : Bool) (t : List ℕ) → b ≡ (length t == 0) → b ≡ false → 0 < length t
has_bytes b [] e h = absurd cc
has_bytes b (x ∷ xs) e h = omega arith

-- ---- the loop

-- these lines were read, this is open, and this text is left
pub record Reading (text : List ℕ) (ls : List Line) (o : Open) (rest : List ℕ) : Type 0 where
  pub lines : ls ++ lines_from o (lines_of rest) ≡ lines_in text
  pub state : open_from o (lines_of rest) ≡ left_open text
  pub documents : o.documents + length rest ≤ length text
  pub raw : o.raw + length rest ≤ length text

-- at the start no line was
pub reading_first : (text : List ℕ) (lines : List Line) → lines ≡ [] → Reading text lines none_open text
reading_first text lines e = record {
  lines = ap (λ (ls : List Line). ls ++ lines_in text) e;
  state = refl;
  documents = omega arith;
  raw = omega arith;
}

-- the first line, and what follows
next_lines : (o : Open) (t : List ℕ) → 0 < length t → lines_from o (lines_of t)
    ≡ record { text = (line_of t).0; role = role_in o (line_of t).0 } ∷ lines_from (open_past o (line_of t).0) (lines_of (line_of t).1)
unfolding lines_from
next_lines o [] h = absurd (omega arith)
next_lines o (b ∷ bs) h = rw (first_line b bs) refl

next_open : (o : Open) (t : List ℕ) → 0 < length t → open_from o (lines_of t) ≡ open_from (open_past o (line_of t).0) (lines_of (line_of t).1)
unfolding open_from
next_open o [] h = absurd (omega arith)
next_open o (b ∷ bs) h = rw (first_line b bs) refl

some_bytes : (t : List ℕ) → 0 < length t → 1 ≤ line_len t
some_bytes [] h = absurd (omega arith)
some_bytes (b ∷ bs) h = line_has b bs

-- what stands behind the first line is shorter
pub shorter : (t : List ℕ) → 0 < length t → length (line_of t).1 + 1 ≤ length t
shorter t h =
    let size : length (take (line_len t) t) ≡ line_len t = length-take-le (line_len t) t (line_within t) in
    omega (arith, size, some_bytes t h, ap length (take-append-drop (line_len t) t), length-append (take (line_len t) t) (drop (line_len t) t))

-- one line more was read
pub reading_next : (text : List ℕ) (lines : List Line) (o : Open) (rest : List ℕ) → 0 < length rest → Reading text lines o rest →
    Reading text (lines ++ record { text = (line_of rest).0; role = role_in o (line_of rest).0 } ∷ []) (open_past o (line_of rest).0) (line_of rest).1
reading_next text lines o rest h r = record {
  lines = append_assoc lines (_ ∷ []) _ ∙ (ap (λ (ls : List Line). lines ++ ls) (sym (next_lines o rest h)) ∙ r.lines);
  state = sym (next_open o rest h) ∙ r.state;
  documents = omega (arith, shorter rest h, documents_more o (mark_of (line_of rest).0), r.documents);
  raw = omega (arith, shorter rest h, raw_more o (mark_of (line_of rest).0), r.raw);
}

-- what is the same was read as well
pub reading_same : (text : List ℕ) (ls ms : List Line) (o p : Open) (t u : List ℕ) → ls ≡ ms → o ≡ p → t ≡ u → Reading text ls o t → Reading text ms p u
reading_same text ls ms o p t u e f g r =
    subst (λ (ks : List Line). Reading text ks p u) e (subst (λ (q : Open). Reading text ls q u) f (subst (λ (v : List ℕ). Reading text ls o v) g r))

nothing_left : (o : Open) (rest : List ℕ) → length rest ≡ 0 → lines_from o (lines_of rest) ≡ []
unfolding lines_from lines_of
nothing_left o [] h = refl
nothing_left o (b ∷ bs) h = absurd (omega (arith, h))

nothing_opened : (o : Open) (rest : List ℕ) → length rest ≡ 0 → open_from o (lines_of rest) ≡ o
unfolding open_from lines_of
nothing_opened o [] h = refl
nothing_opened o (b ∷ bs) h = absurd (omega (arith, h))

-- at the end all were
pub all_read : (text : List ℕ) (lines : List Line) (o : Open) (rest : List ℕ) → length rest ≡ 0 → Reading text lines o rest → lines ≡ lines_in text
all_read text lines o rest h r = sym (append-nil lines) ∙ (ap (λ (ls : List Line). lines ++ ls) (sym (nothing_left o rest h)) ∙ r.lines)

pub all_opened : (text : List ℕ) (lines : List Line) (o : Open) (rest : List ℕ) → length rest ≡ 0 → Reading text lines o rest → o ≡ left_open text
all_opened text lines o rest h r = sym (nothing_opened o rest h) ∙ r.state
