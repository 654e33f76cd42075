-- The stretches of a text: joined, they are the text; and stretches that are those of a text are read again.
use Rattle.std.proofs.Common.{◌≡◌, ℕ, Bool, true, false, List, [], ◌∷◌, ◌++◌, ◌<◌, ◌≤◌, length, drop, Option, Some, None, is_some, refl, sym, ap, subst, ◌∙◌, arith, append_assoc, inl, inr, ltb}
use Rattle.std.proofs.{lemmas.Bool.{or_parts, cases_Bool, cases_lt, lt-ltb, le-ltb, true≢false}, lemmas.List.{append-nil, length-append, length-take-le, drop_at, nil_from_length}}
use Rattle.std.specs.List.{concat, list_any}
use Rattle.t1_document.specs.{declared.marks.Mark.{Mark}, Lines.{lines_of, line_len, line_of, breaks}, Marks.{mark_of, has_mark}}
use Rattle.t1_document.specs.{Stretches.{Stretch, Stretches, at_line, gathered, stretches, stretches_bytes, stretches_text, AreStretches, AreThose}, Documents.{next_mark}}
use Rattle.t1_document.proofs.LineLemmas.{lines_joined, lines_apart, AreLines, are_lines, line_within, line_has, first_line, breaks-front, breaks-append, breaks-nil}

-- ---- joined

line_joined : (line : List ℕ) (m : Option Mark) (x : Stretches) → stretches_text (at_line line m x) ≡ line ++ stretches_text x
line_joined line None x = append_assoc line x.0 (stretches_bytes x.1)
line_joined line (Some m) x = append_assoc line x.0 (stretches_bytes x.1)

gathered_joined : (lines : List (List ℕ)) → stretches_text (gathered lines) ≡ concat lines
gathered_joined [] = refl
gathered_joined (line ∷ lines) = line_joined line (mark_of line) (gathered lines) ∙ ap (λ (t : List ℕ). line ++ t) (gathered_joined lines)

-- the stretches of a text, joined, are the text
pub stretches_joined : (t : List ℕ) → stretches_text (stretches t) ≡ t
unfolding stretches
stretches_joined t = gathered_joined (lines_of t) ∙ lines_joined t

-- ---- what they are

-- whether some line is a mark
abbrev pub any_mark : List (List ℕ) → Bool
any_mark lines = list_any (λ line. is_some (mark_of line)) lines

unmarked_line : (line : List ℕ) (lines : List (List ℕ)) → mark_of line ≡ None → any_mark lines ≡ false → any_mark (line ∷ lines) ≡ false
unmarked_line line lines e h = rw (e, h) refl

-- there is no mark in no bytes
pub none_in_nothing : has_mark [] ≡ false
unfolding lines_of
none_in_nothing = refl

nothing_gathered : gathered (lines_of []) ≡ ([], [])
unfolding lines_of
nothing_gathered = refl

at_those : (line : List ℕ) (lines : List (List ℕ)) → lines_of line ≡ line ∷ [] → breaks line (concat lines) ≡ true →
    AreThose (gathered lines) → (m : Option Mark) → mark_of line ≡ m → AreThose (at_line line m (gathered lines))
at_those line lines whole ends those None e =
    let x = gathered lines in
    let before : breaks line (x.0 ++ stretches_bytes x.1) ≡ true = subst (λ (t : List ℕ). breaks line t ≡ true) (sym (gathered_joined lines)) ends in
    let both : lines_of (line ++ x.0) ≡ line ∷ lines_of x.0 =
    lines_apart line x.0 (breaks-front line x.0 (stretches_bytes x.1) before) ∙ ap (λ (l : List (List ℕ)). l ++ lines_of x.0) whole in
    record {
      unmarked = rw both (unmarked_line line (lines_of x.0) e those.unmarked);
      front_ends = breaks-append line x.0 (stretches_bytes x.1) before those.front_ends;
      each = those.each;
    }
at_those line lines whole ends those (Some m) e =
    let x = gathered lines in
    record {
      unmarked = none_in_nothing;
      front_ends = refl;
      each = (
        record {
          mark = e;
          whole = whole;
          unmarked = those.unmarked;
          line_ends = subst (λ (t : List ℕ). breaks line t ≡ true) (sym (gathered_joined lines)) ends;
          text_ends = those.front_ends;
        },
        those.each,
      );
    }

gathered_those : (lines : List (List ℕ)) → AreLines lines → AreThose (gathered lines)
gathered_those [] all = record { unmarked = none_in_nothing; front_ends = refl; each = tt }
gathered_those (line ∷ lines) all = at_those line lines all.0 all.1 (gathered_those lines all.2) (mark_of line) refl

-- the stretches of a text are those of a text
pub stretches_those : (t : List ℕ) → AreThose (stretches t)
unfolding stretches
stretches_those t = gathered_those (lines_of t) (are_lines t)

-- ---- read again

at_unmarked : (line : List ℕ) (x : Stretches) (m : Option Mark) → is_some m ≡ false → at_line line m x ≡ (line ++ x.0, x.1)
at_unmarked line x None h = refl
at_unmarked line x (Some m) h = absurd cc

-- lines without a mark stand before the stretches of those behind them
gathered_unmarked : (lines behind : List (List ℕ)) → any_mark lines ≡ false →
    gathered (lines ++ behind) ≡ (concat lines ++ (gathered behind).0, (gathered behind).1)
gathered_unmarked [] behind h = refl
gathered_unmarked (line ∷ lines) behind h =
    let parts = or_parts (is_some (mark_of line)) (any_mark lines) h in
    let x = gathered behind in
    at_unmarked line (gathered (lines ++ behind)) (mark_of line) parts.0
    ∙ (ap (λ (y : Stretches). (line ++ y.0, y.1)) (gathered_unmarked lines behind parts.1)
    ∙ ap (λ (t : List ℕ). (t, x.1)) (sym (append_assoc line (concat lines) x.0)))

-- a text without a mark stands before the stretches of what follows it, if a line ends between
pub unmarked_before : (t behind : List ℕ) → has_mark t ≡ false → breaks t behind ≡ true →
    gathered (lines_of (t ++ behind)) ≡ (t ++ (gathered (lines_of behind)).0, (gathered (lines_of behind)).1)
unmarked_before t behind none ends =
    let x = gathered (lines_of behind) in
    ap gathered (lines_apart t behind ends)
    ∙ (gathered_unmarked (lines_of t) (lines_of behind) none
    ∙ ap (λ (u : List ℕ). (u ++ x.0, x.1)) (lines_joined t))

each_read : (ss : List Stretch) → AreStretches ss → gathered (lines_of (stretches_bytes ss)) ≡ ([], ss)
each_read [] all = nothing_gathered
each_read (s ∷ ss) all =
    let rest = stretches_bytes ss in
    let lines : lines_of ((s.line ++ s.text) ++ rest) ≡ s.line ∷ lines_of (s.text ++ rest) =
    ap lines_of (append_assoc s.line s.text rest)
    ∙ (lines_apart s.line (s.text ++ rest) all.0.line_ends ∙ ap (λ (l : List (List ℕ)). l ++ lines_of (s.text ++ rest)) all.0.whole) in
    let behind : gathered (lines_of (s.text ++ rest)) ≡ (s.text, ss) =
    unmarked_before s.text rest all.0.unmarked all.0.text_ends
    ∙ (ap (λ (x : Stretches). (s.text ++ x.0, x.1)) (each_read ss all.1)
    ∙ ap (λ (t : List ℕ). (t, ss)) (append-nil s.text)) in
    ap gathered lines
    ∙ (ap (λ (m : Option Mark). at_line s.line m (gathered (lines_of (s.text ++ rest)))) all.0.mark
    ∙ ap (at_line s.line (Some s.mark)) behind)

-- stretches that are those of a text are read again
pub stretches_again : (x : Stretches) → AreThose x → stretches (stretches_text x) ≡ x
unfolding stretches
stretches_again x those =
    unmarked_before x.0 (stretches_bytes x.1) those.unmarked those.front_ends
    ∙ (ap (λ (y : Stretches). (x.0 ++ y.0, y.1)) (each_read x.1 those.each)
    ∙ ap (λ (t : List ℕ). (t, x.1)) (append-nil x.0))

-- ---- from line to line

-- the stretches of a text that has bytes, by its first line
pub by_first_line : (t : List ℕ) → 0 < length t → stretches t ≡ at_line (line_of t).0 (mark_of (line_of t).0) (stretches (line_of t).1)
unfolding stretches
by_first_line [] h = absurd (omega arith)
by_first_line (b ∷ bs) h = ap gathered (first_line b bs)

-- where the first line is no mark, it stands at the front
pub past_line : (t : List ℕ) → 0 < length t → mark_of (line_of t).0 ≡ None →
    stretches t ≡ ((line_of t).0 ++ (stretches (line_of t).1).0, (stretches (line_of t).1).1)
past_line t h e = by_first_line t h ∙ ap (λ (m : Option Mark). at_line (line_of t).0 m (stretches (line_of t).1)) e

-- where it is one, a stretch begins
pub at_mark : (t : List ℕ) → 0 < length t → (m : Mark) → mark_of (line_of t).0 ≡ Some m →
    stretches t ≡ ([], record { mark = m; line = (line_of t).0; text = (stretches (line_of t).1).0 } ∷ (stretches (line_of t).1).1)
at_mark t h m e = by_first_line t h ∙ ap (λ (m : Option Mark). at_line (line_of t).0 m (stretches (line_of t).1)) e

-- no mark stands in no bytes
pub nothing_is_no_mark : (m : Mark) → mark_of [] ≡ Some m → ⊥
unfolding mark_of
nothing_is_no_mark m e = cc

-- nothing has no stretches
pub no_stretches : stretches [] ≡ ([], [])
unfolding stretches lines_of
no_stretches = refl

-- a text that is a mark has bytes
pub mark_has : (t : List ℕ) (m : Mark) → mark_of (line_of t).0 ≡ Some m → 0 < length t
unfolding line_len
mark_has [] m e = absurd (nothing_is_no_mark m e)
mark_has (b ∷ bs) m e = omega arith

-- a text with nothing before its first mark, whose first line is no mark, is nothing
pub no_more : (t : List ℕ) → (stretches t).0 ≡ [] → mark_of (line_of t).0 ≡ None → t ≡ []
no_more [] none e = refl
no_more (b ∷ bs) none e =
    let t = b ∷ bs in
    let front : (line_of t).0 ++ (stretches (line_of t).1).0 ≡ [] = ap (λ (x : Stretches). x.0) (sym (past_line t (omega arith) e)) ∙ none in
    absurd (omega (
      arith,
      ap length front,
      length-append (line_of t).0 (stretches (line_of t).1).0,
      length-take-le (line_len t) t (line_within t),
      line_has b bs,
    ))

-- the mark that such a text begins with is that of its first stretch
pub mark_next : (t : List ℕ) → (stretches t).0 ≡ [] → mark_of (line_of t).0 ≡ next_mark (stretches t).1
mark_next t none = by_mark (mark_of (line_of t).0) refl
  where
    by_mark : (m : Option Mark) → mark_of (line_of t).0 ≡ m → m ≡ next_mark (stretches t).1
    by_mark None e = sym (ap (λ (u : List ℕ). next_mark (stretches u).1) (no_more t none e) ∙ ap (λ (x : Stretches). next_mark x.1) no_stretches)
    by_mark (Some m) e = sym (ap (λ (x : Stretches). next_mark x.1) (at_mark t (mark_has t m e) m e))

-- ---- what stands before the first mark

-- it is at the front of the text
pub front_whole : (t : List ℕ) → t ≡ (stretches t).0 ++ stretches_bytes (stretches t).1
front_whole t = sym (stretches_joined t)

-- it is no longer than the text
pub front_len : (t : List ℕ) → length (stretches t).0 ≤ length t
front_len t = omega (arith, ap length (front_whole t), length-append (stretches t).0 (stretches_bytes (stretches t).1))

-- behind it stand the stretches
pub behind_front : (t : List ℕ) → stretches (drop (length (stretches t).0) t) ≡ ([], (stretches t).1)
behind_front t =
    let x = stretches t in
    let rest : drop (length x.0) t ≡ stretches_bytes x.1 = ap (drop (length x.0)) (front_whole t) ∙ drop_at x.0 (stretches_bytes x.1) (length x.0) refl in
    ap stretches rest ∙ stretches_again ([], x.1) (record { unmarked = none_in_nothing; front_ends = refl; each = (stretches_those t).each })

-- ---- whether there is a mark

-- there is none exactly if the whole text stands before the first one
pub mark_test : (t : List ℕ) → ltb (length (stretches t).0) (length t) ≡ has_mark t
unfolding stretches
mark_test t = elim (cases_Bool (has_mark t)) [
  | inl e ↦ elim (cases_lt (length (stretches t).0) (length t)) [
    | inl lt ↦ lt-ltb _ _ lt ∙ sym e
    | inr ge ↦
        let x = stretches t in
        let none : stretches_bytes x.1 ≡ [] =
        nil_from_length (stretches_bytes x.1) (omega (arith, ge, ap length (front_whole t), length-append x.0 (stretches_bytes x.1))) in
        let same : t ≡ x.0 = front_whole t ∙ (ap (λ (u : List ℕ). x.0 ++ u) none ∙ append-nil x.0) in
        absurd (true≢false (sym e ∙ (ap has_mark same ∙ (stretches_those t).unmarked)))
  ]
  | inr e ↦
      let x = gathered (lines_of []) in
      let whole : gathered (lines_of (t ++ [])) ≡ (t ++ x.0, x.1) = unmarked_before t [] e (breaks-nil t) in
      let front : (stretches t).0 ≡ t =
      ap (λ (u : List ℕ). (gathered (lines_of u)).0) (sym (append-nil t))
      ∙ (ap (λ (y : Stretches). y.0) whole ∙ (ap (λ (y : Stretches). t ++ y.0) nothing_gathered ∙ append-nil t)) in
      le-ltb _ _ (omega (arith, ap length front)) ∙ sym e
]
