-- Words that lines begin with, and words that they don't.
use Rattle.std.proofs.Common.{◌≡◌, ℕ, ◌==◌, Bool, true, false, List, [], ◌∷◌, ◌++◌, Some, None, Option, is_some, refl, ap, ◌∙◌, inl, inr}
use Rattle.std.proofs.lemmas.{Slice.Eq.{bytes_eq-Decides}, Bool.{cases_Bool, eqb-false}}
use Rattle.std.specs.Prelude.{◌||◌, not, codes}
use Rattle.t1_grammar.specs.Grammar.{fixed, choice}
use Rattle.t1_document.{specs.{declared.marks.Side.TheVariants.{Begin, End}, Marks.{begins_with, kind_of, mark_behind, mark_of}}, proofs.FontLemmas.{fixed_is}}
use Rattle.t1_dsc.specs.{declared.lines.Role.TheVariants.{Text}, Structure.{role_of}}

-- a word and a text differ before either ends
abbrev pub differs : List ℕ → List ℕ → Bool
differs [] t = false
differs (a ∷ w) [] = false
differs (a ∷ w) (b ∷ t) = not (a == b) || differs w t

eq_self : (a : ℕ) → (a == a) ≡ true
eq_self a = elim (cases_Bool (a == a)) [
  | inl e ↦ e
  | inr e ↦ absurd (eqb-false a a e refl)
]

same_first : (w rest : List ℕ) → differs w (w ++ rest) ≡ false
same_first [] rest = refl
same_first (a ∷ w) rest = rw (eq_self a) (same_first w rest)

-- such a word is not read
pub unread_word : (w t : List ℕ) → differs w t ≡ true → (fixed w).read t ≡ None
unread_word w t h = by_read ((fixed w).read t) refl
  where
    by_read : (o : Option (List ℕ × List ℕ)) → (fixed w).read t ≡ o → o ≡ None
    by_read None e = refl
    by_read (Some x) e =
        let s = (fixed w).takes t x e in
        let is : t ≡ w ++ x.1 = s.1 ∙ ap (λ (u : List ℕ). u ++ x.1) (fixed_is w x.0 s.0 x.1 s.2) in
        let not_so : differs w t ≡ false = ap (differs w) is ∙ same_first w x.1 in
        absurd cc

pub no_word : (w t : List ℕ) → differs w t ≡ true → begins_with w t ≡ false
no_word w t h = ap is_some (unread_word w t h)

-- a word before any text is read
pub reads_word : (w rest : List ℕ) → (fixed w).read (w ++ rest) ≡ Some (w, rest)
reads_word w rest = (fixed w).again w w rest ((refl, refl), (bytes_eq-Decides w w).1 refl)

pub has_word : (w rest : List ℕ) → begins_with w (w ++ rest) ≡ true
has_word w rest = ap is_some (reads_word w rest)

some_is : {A : Type 0} (o : Option A) → is_some o ≡ true → (x : A) × (o ≡ Some x)
some_is None h = absurd cc
some_is (Some x) h = (x, refl)

-- what begins with a word is the word and what follows
pub word_first : (w t : List ℕ) → begins_with w t ≡ true → (rest : List ℕ) × (t ≡ w ++ rest)
word_first w t h =
    let x = some_is ((fixed w).read t) h in
    let s = (fixed w).takes t x.0 x.1 in
    (x.0.1, s.1 ∙ ap (λ (u : List ℕ). u ++ x.0.1) (fixed_is w x.0.0 s.0 x.0.1 s.2))

-- ---- lines of no structure

-- a line that doesn't begin with `%%` begins with no longer word that does
more_differs : (w t : List ℕ) → differs (codes "%%") t ≡ true → differs (37 ∷ 37 ∷ w) t ≡ true
more_differs w [] h = h
more_differs w (a ∷ []) h = h
more_differs w (a ∷ b ∷ t) h = by_parts (not (37 == a)) (not (37 == b)) h
  where
    by_parts : (x y : Bool) → (x || (y || false)) ≡ true → (x || (y || differs w t)) ≡ true
    by_parts true y e = refl
    by_parts false true e = refl
    by_parts false false e = absurd cc

-- so it is no mark, and text
pub no_mark : (t : List ℕ) → differs (codes "%%") t ≡ true → mark_of t ≡ None
unfolding mark_of
no_mark t h = rw (unread_word (codes "%%Begin") t (more_differs (codes "Begin") t h), unread_word (codes "%%End") t (more_differs (codes "End") t h)) refl

pub text_role : (t : List ℕ) → differs (codes "%%") t ≡ true → role_of t ≡ Text
unfolding role_of
text_role t h = rw (
  no_word (codes "%%Page:") t (more_differs (codes "Page:") t h),
  no_word (codes "%%Trailer") t (more_differs (codes "Trailer") t h),
  no_word (codes "%%EOF") t (more_differs (codes "EOF") t h),
  no_word (codes "%%EndPageSetup") t (more_differs (codes "EndPageSetup") t h),
  no_word (codes "%%Pages:") t (more_differs (codes "Pages:") t h),
  no_word (codes "%%EndComments") t (more_differs (codes "EndComments") t h),
  no_word (codes "%%BeginDefaults") t (more_differs (codes "BeginDefaults") t h),
  no_word (codes "%%EndDefaults") t (more_differs (codes "EndDefaults") t h),
  no_word (codes "%%BeginProlog") t (more_differs (codes "BeginProlog") t h),
  no_word (codes "%%EndProlog") t (more_differs (codes "EndProlog") t h),
  no_word (codes "%%BeginSetup") t (more_differs (codes "BeginSetup") t h),
  no_word (codes "%%EndSetup") t (more_differs (codes "EndSetup") t h),
  no_word (codes "%%BeginPageSetup") t (more_differs (codes "BeginPageSetup") t h),
) refl

-- ---- marks behind words

-- a line that begins with neither word of a mark is none
pub neither_mark : (t : List ℕ) → differs (codes "%%Begin") t ≡ true → differs (codes "%%End") t ≡ true → mark_of t ≡ None
unfolding mark_of
neither_mark t h k = rw (unread_word (codes "%%Begin") t h, unread_word (codes "%%End") t k) refl

-- what begins with no kind's word is of none
pub no_kind : (t : List ℕ) → differs (codes "Font") t ≡ true → differs (codes "ProcSet") t ≡ true → differs (codes "Resource") t ≡ true →
    differs (codes "Document") t ≡ true → differs (codes "Data") t ≡ true → differs (codes "Binary") t ≡ true → kind_of t ≡ None
unfolding kind_of
no_kind t a b c d e f =
    rw (
      no_word (codes "Font") t a,
      no_word (codes "ProcSet") t b,
      no_word (codes "Resource") t c,
      no_word (codes "Document") t d,
      no_word (codes "Data") t e,
      no_word (codes "Binary") t f,
    ) refl

-- a line that begins so, and then with no kind's word, is no mark
pub begin_no_mark : (t : List ℕ) → kind_of t ≡ None → mark_of (codes "%%Begin" ++ t) ≡ None
unfolding mark_of
begin_no_mark t h =
    ap (λ o. choice (mark_behind Begin o) (mark_behind End ((fixed (codes "%%End")).read (codes "%%Begin" ++ t)))) (reads_word (codes "%%Begin") t)
    ∙ rw (h, unread_word (codes "%%End") (codes "%%Begin" ++ t) refl) refl

pub end_no_mark : (t : List ℕ) → kind_of t ≡ None → mark_of (codes "%%End" ++ t) ≡ None
unfolding mark_of
end_no_mark t h =
    ap (λ o. choice (mark_behind Begin o) (mark_behind End ((fixed (codes "%%End")).read (codes "%%End" ++ t))))
    (unread_word (codes "%%Begin") (codes "%%End" ++ t) refl)
    ∙ (ap (mark_behind End) (reads_word (codes "%%End") t) ∙ rw h refl)
