-- Lines of texts, and of texts that are joined.
use Rattle.std.proofs.{Common.{◌≡◌, ℕ, ◌+◌, ◌≤◌, Bool, true, false, List, [], ◌∷◌, ◌++◌, length, take, drop, refl, sym, ap, subst, ◌∙◌, inl, inr, arith, one-add}, lemmas.Bool.{cases_Bool, eqb-true}}
use Rattle.std.proofs.lemmas.List.{append-nil}
use Rattle.std.specs.{Prelude.{◌||◌, ◌==◌, not}, List.{concat, prefix_len}}
use Rattle.t1_document.specs.Lines.{lf_comes, line_closes, into_first, lines_of, line_len, is_line_end, end_len, no_bytes, breaks}

concat_into : (b : ℕ) (ls : List (List ℕ)) → concat (into_first b ls) ≡ b ∷ concat ls
concat_into b [] = refl
concat_into b (l ∷ ls) = refl

-- the lines of a text, joined, are the text
pub lines_joined : (t : List ℕ) → concat (lines_of t) ≡ t
unfolding lines_of
lines_joined [] = refl
lines_joined (b ∷ bs) = elim (cases_Bool (line_closes b bs)) [
  | inl e ↦ rw e (ap (λ (t : List ℕ). b ∷ t) (lines_joined bs))
  | inr e ↦ rw (e, concat_into b (lines_of bs)) (ap (λ (t : List ℕ). b ∷ t) (lines_joined bs))
]

-- ---- two texts between which a line ends

one_byte : (b : ℕ) → lines_of (b ∷ []) ≡ (b ∷ []) ∷ []
unfolding lines_of
one_byte b = elim (cases_Bool (line_closes b [])) [
  | inl e ↦ rw e refl
  | inr e ↦ rw e refl
]

-- a text that has bytes has lines
pub some_lines : (b : ℕ) (bs : List ℕ) → (line : List ℕ) × (lines : List (List ℕ)) × (lines_of (b ∷ bs) ≡ line ∷ lines)
unfolding lines_of
some_lines b bs = elim (cases_Bool (line_closes b bs)) [
  | inl e ↦ (b ∷ [], lines_of bs, rw e refl)
  | inr e ↦ let some : (l : List ℕ) × (ls : List (List ℕ)) × (into_first b (lines_of bs) ≡ l ∷ ls) = into_some (lines_of bs) in (some.0, some.1, rw e some.2)
]
  where
    into_some : (ls : List (List ℕ)) → (line : List ℕ) × (lines : List (List ℕ)) × (into_first b ls ≡ line ∷ lines)
    into_some [] = (b ∷ [], [], refl)
    into_some (l ∷ ls) = (b ∷ l, ls, refl)

into_append : (b : ℕ) (xs ys : List (List ℕ)) (l : List ℕ) (ls : List (List ℕ)) → xs ≡ l ∷ ls → into_first b (xs ++ ys) ≡ into_first b xs ++ ys
into_append b xs ys l ls e = rw e refl

-- their lines are those of both
pub lines_apart : (a b : List ℕ) → breaks a b ≡ true → lines_of (a ++ b) ≡ lines_of a ++ lines_of b
unfolding lines_of
lines_apart [] b h = refl
lines_apart (x ∷ []) [] h = sym (append-nil (lines_of (x ∷ [])))
lines_apart (x ∷ []) (y ∷ b) h = rw (h, one_byte x) refl
lines_apart (x ∷ y ∷ a) b h =
    let rest = lines_apart (y ∷ a) b h in
    let some = some_lines y a in
    elim (cases_Bool (line_closes x (y ∷ a))) [
      | inl e ↦ rw (e, rest) refl
      | inr e ↦ rw (e, rest) (into_append x (lines_of (y ∷ a)) (lines_of b) some.0 some.1 some.2)
    ]

-- ---- the lines of one text

-- each is one whole line, and a line ends between it and those behind it
abbrev pub AreLines : List (List ℕ) → Type 0
AreLines [] = Unit {0}
AreLines (l ∷ ls) = (lines_of l ≡ l ∷ []) × (breaks l (concat ls) ≡ true) × AreLines ls

-- a line ends before nothing
pub breaks-nil : (a : List ℕ) → breaks a [] ≡ true
breaks-nil [] = refl
breaks-nil (x ∷ []) = refl
breaks-nil (x ∷ y ∷ a) = breaks-nil (y ∷ a)

-- the lines of a text are such lines
pub are_lines : (t : List ℕ) → AreLines (lines_of t)
unfolding lines_of
are_lines [] = tt
are_lines (b ∷ bs) = elim (cases_Bool (line_closes b bs)) [
  | inl e ↦ rw e (one_byte b, rw (lines_joined bs, e) (or_true (no_bytes bs)), are_lines bs)
  | inr e ↦ rw e (into_lines (lines_of bs) (are_lines bs) (rw lines_joined e))
]
  where
    or_true : (t : Bool) → (t || true) ≡ true
    or_true true = refl
    or_true false = refl

    into_lines : (ls : List (List ℕ)) → AreLines ls → line_closes b (concat ls) ≡ false → AreLines (into_first b ls)
    into_lines [] all e = (one_byte b, refl, tt)
    into_lines ([] ∷ ls) all e = absurd cc
    into_lines ((c ∷ l) ∷ ls) all e = (rw (e, all.0) refl, all.1, all.2)

-- ---- what stands behind a text

-- a line that ends before two texts ends before the first
pub breaks-front : (a b c : List ℕ) → breaks a (b ++ c) ≡ true → breaks a b ≡ true
breaks-front [] b c h = refl
breaks-front (x ∷ []) [] c h = refl
breaks-front (x ∷ []) (y ∷ b) c h = h
breaks-front (x ∷ y ∷ a) b c h = breaks-front (y ∷ a) b c h

-- a line ends behind the second of two texts
pub breaks-append : (a b c : List ℕ) → breaks a (b ++ c) ≡ true → breaks b c ≡ true → breaks (a ++ b) c ≡ true
breaks-append [] b c h k = k
breaks-append (x ∷ []) [] c h k = h
breaks-append (x ∷ []) (y ∷ b) c h k = k
breaks-append (x ∷ y ∷ a) b c h k = breaks-append (y ∷ a) b c h k

-- ---- the first line

lf_is_no_cr : (b : ℕ) → (b == 10) ≡ true → (b == 13) ≡ false
lf_is_no_cr b e = subst (λ (n : ℕ). (n == 13) ≡ false) (sym (eqb-true b 10 e)) refl

lf_is_a_line : (bs : List ℕ) → lf_comes bs ≡ true → line_len bs ≡ 1
unfolding line_len
lf_is_a_line [] h = absurd cc
lf_is_a_line (b ∷ bs) h = rw h refl

-- how many bytes stand before the first end of a line
abbrev pub body_len : List ℕ → ℕ
body_len t = prefix_len (λ b. not (is_line_end b)) t

-- these bytes, and that end
pub line_len_is : (t : List ℕ) → line_len t ≡ body_len t + end_len (drop (body_len t) t)
unfolding line_len
line_len_is [] = refl
line_len_is (b ∷ bs) = elim (cases_Bool (b == 10)) [
  | inl e ↦ rw (e, lf_is_no_cr b e) refl
  | inr e ↦ elim (cases_Bool (b == 13)) [
    | inl k ↦ elim (cases_Bool (lf_comes bs)) [
      | inl h ↦ rw (e, k, h, lf_is_a_line bs h, k) refl
      | inr h ↦ rw (e, k, h, k) refl
    ]
    | inr k ↦ rw (e, k, one-add) (omega (arith, line_len_is bs))
  ]
]

-- it is within the text
pub line_within : (t : List ℕ) → line_len t ≤ length t
unfolding line_len
line_within [] = omega arith
line_within (b ∷ bs) = elim (cases_Bool (line_closes b bs)) [
  | inl e ↦ rw e (omega arith)
  | inr e ↦ rw e (omega (arith, line_within bs))
]

-- a text that has bytes has a first line with bytes
pub line_has : (b : ℕ) (bs : List ℕ) → 1 ≤ line_len (b ∷ bs)
unfolding line_len
line_has b bs = elim (cases_Bool (line_closes b bs)) [
  | inl e ↦ rw e (omega arith)
  | inr e ↦ rw e (omega arith)
]

-- the lines of a text are its first line and the lines behind it
pub first_line : (b : ℕ) (bs : List ℕ) → lines_of (b ∷ bs) ≡ take (line_len (b ∷ bs)) (b ∷ bs) ∷ lines_of (drop (line_len (b ∷ bs)) (b ∷ bs))
unfolding lines_of line_len
first_line b [] = one_byte b ∙ elim (cases_Bool (line_closes b [])) [
  | inl e ↦ rw e refl
  | inr e ↦ rw e refl
]
first_line b (c ∷ bs) = elim (cases_Bool (line_closes b (c ∷ bs))) [
  | inl e ↦ rw e refl
  | inr e ↦ rw (e, first_line c bs) refl
]

-- ---- between two texts

-- there are no bytes where their number is 0
pub nil_is : (bytes : List ℕ) → (length bytes == 0) ≡ no_bytes bytes
nil_is [] = refl
nil_is (b ∷ bs) = elim (cases_Bool (length (b ∷ bs) == 0)) [
  | inl t ↦ let none : length (b ∷ bs) ≡ 0 = eqb-true (length (b ∷ bs)) 0 t in absurd (omega (arith, none))
  | inr f ↦ f
]

-- a line ends behind a text as it does behind its last byte
pub breaks_behind : (front : List ℕ) (b : ℕ) (behind : List ℕ) → breaks (front ++ b ∷ []) behind ≡ (no_bytes behind || line_closes b behind)
breaks_behind [] b behind = refl
breaks_behind (x ∷ []) b behind = refl
breaks_behind (x ∷ y ∷ front) b behind = breaks_behind (y ∷ front) b behind
