-- Files that are sorted, each once.
use Rattle.std.proofs.Common.{arith, ◌≡◌, ◌⊎◌, ◌+◌, ℕ, Bool, true, false, cond, List, [], ◌∷◌, refl, sym, ap, ◌∙◌, subst, inl, inr, IsPermutation}
use Rattle.std.proofs.lemmas.{Bool.{cases_Bool, true≢false}, Cmp.{nat_list_cmp_total}, Map.Text.{is_eq-slice_cmp}, Slice.Eq.{bytes_eq-Decides}, List.Sorted.{list_any-IsPermutation}}
use Rattle.std.specs.{Prelude.{◌||◌}, List.{AllByRecursion}, Ordering.{nat_cmp, is_eq, ordering_reverse}, Cmp.Lexicographic.{slice_cmp}, Str.{bytes_eq}}
use Rattle.std.specs.{declared.cmp.Ordering.{Ordering}, declared.cmp.Ordering.TheVariants.{Less, Equal, Greater}}
use Rattle.t1_classes.specs.Partition.{File, is_among, put, put_by, put_all, distinct}

abbrev order : File → File → Ordering
order = slice_cmp nat_cmp

-- how often a file is among some
abbrev pub times : File → List File → ℕ
times f [] = 0
times f (g ∷ gs) = cond (bytes_eq f g) 1 0 + times f gs

-- a file is below each of some
abbrev Below : File → List File → Type 0
Below f gs = AllByRecursion (λ g. order f g ≡ Less) gs

abbrev pub IsSortedOnce : List File → Type 0
IsSortedOnce [] = Unit {0}
IsSortedOnce (g ∷ gs) = Below g gs × IsSortedOnce gs

-- ---- the order

cases_order : (o : Ordering) → (o ≡ Less) ⊎ ((o ≡ Equal) ⊎ (o ≡ Greater))
cases_order Less = inl refl
cases_order Equal = inr (inl refl)
cases_order Greater = inr (inr refl)

above : (f g : File) → order f g ≡ Greater → order g f ≡ Less
above f g e = nat_list_cmp_total.antisymm g f ∙ ap ordering_reverse e

ties : (f g : File) → order f g ≡ Equal → f ≡ g
ties f g e = (bytes_eq-Decides f g).0 (sym (is_eq-slice_cmp f g) ∙ ap is_eq e)

apart : (f g : File) → order f g ≡ Less → bytes_eq f g ≡ false
apart f g e = sym (is_eq-slice_cmp f g) ∙ ap is_eq e

itself : (f : File) → bytes_eq f f ≡ true
itself f = (bytes_eq-Decides f f).1 refl

below_more : (f g : File) (gs : List File) → order f g ≡ Less → Below g gs → Below f gs
below_more f g [] less h = tt
below_more f g (x ∷ gs) less h = (nat_list_cmp_total.trans f g x less h.0, below_more f g gs less h.1)

-- a file below others is none of them
pub none_in : (f : File) (gs : List File) → Below f gs → is_among f gs ≡ false
none_in f [] h = refl
none_in f (g ∷ gs) h = ap (λ (b : Bool). b || is_among f gs) (apart f g h.0) ∙ none_in f gs h.1

-- ---- one file more

below_put : (g f : File) (gs : List File) → order g f ≡ Less → Below g gs → Below g (put f gs)
below_put g f [] less h = (less, tt)
below_put g f (x ∷ gs) less h = by_order (below_put g f gs less h.1) (order f x)
  where
    by_order : Below g (put f gs) → (o : Ordering) → Below g (put_by o f x gs (put f gs))
    by_order more Less = (less, h)
    by_order more Equal = h
    by_order more Greater = (h.0, more)

put_sorted : (f : File) (gs : List File) → IsSortedOnce gs → IsSortedOnce (put f gs)
put_sorted f [] s = (tt, tt)
put_sorted f (g ∷ gs) s = by_order (put_sorted f gs s.1) (order f g) refl
  where
    by_order : IsSortedOnce (put f gs) → (o : Ordering) → order f g ≡ o → IsSortedOnce (put_by o f g gs (put f gs))
    by_order more Less e = ((e, below_more f g gs e s.0), s)
    by_order more Equal e = s
    by_order more Greater e = (below_put g f gs (above f g e) s.0, more)

put_in : (x f : File) (gs : List File) → is_among x (put f gs) ≡ (bytes_eq x f || is_among x gs)
put_in x f [] = refl
put_in x f (g ∷ gs) = by_order (put_in x f gs) (order f g) refl
  where
    twice : (a b : Bool) → (a || b) ≡ (a || (a || b))
    twice true b = refl
    twice false b = refl

    swapped : (a b c : Bool) → (a || (b || c)) ≡ (b || (a || c))
    swapped true true c = refl
    swapped true false c = refl
    swapped false b c = refl

    by_order : is_among x (put f gs) ≡ (bytes_eq x f || is_among x gs) → (o : Ordering) → order f g ≡ o →
        is_among x (put_by o f g gs (put f gs)) ≡ (bytes_eq x f || (bytes_eq x g || is_among x gs))
    by_order more Less e = refl
    by_order more Equal e =
        twice (bytes_eq x g) (is_among x gs) ∙ ap (λ (h : File). bytes_eq x h || (bytes_eq x g || is_among x gs)) (sym (ties f g e))
    by_order more Greater e = ap (λ (b : Bool). bytes_eq x g || b) more ∙ swapped (bytes_eq x g) (bytes_eq x f) (is_among x gs)

-- ---- all files

all_sorted : (fs gs : List File) → IsSortedOnce gs → IsSortedOnce (put_all gs fs)
all_sorted [] gs s = s
all_sorted (f ∷ fs) gs s = all_sorted fs (put f gs) (put_sorted f gs s)

all_in : (x : File) (fs gs : List File) → is_among x (put_all gs fs) ≡ (is_among x fs || is_among x gs)
all_in x [] gs = refl
all_in x (f ∷ fs) gs = all_in x fs (put f gs) ∙ (ap (λ (b : Bool). is_among x fs || b) (put_in x f gs) ∙ moved (is_among x fs) (bytes_eq x f) (is_among x gs))
  where
    moved : (a b c : Bool) → (a || (b || c)) ≡ ((b || a) || c)
    moved true true c = refl
    moved true false c = refl
    moved false true c = refl
    moved false false c = refl

pub distinct_sorted : (fs : List File) → IsSortedOnce (distinct fs)
distinct_sorted fs = all_sorted fs [] tt

pub distinct_in : (x : File) (fs : List File) → is_among x (distinct fs) ≡ is_among x fs
distinct_in x fs = all_in x fs [] ∙ none (is_among x fs)
  where
    none : (b : Bool) → (b || false) ≡ b
    none true = refl
    none false = refl

-- ---- sorted files are those that are in them

in_tails : (x : File) (xs ys : List File) → Below x xs → Below x ys → ((z : File) → is_among z (x ∷ xs) ≡ is_among z (x ∷ ys)) → (z : File) →
    is_among z xs ≡ is_among z ys
in_tails x xs ys a b same z = elim (cases_Bool (bytes_eq z x)) [
  | inl t ↦
      let is : z ≡ x = (bytes_eq-Decides z x).0 t in
      ap (λ (w : File). is_among w xs) is ∙ (none_in x xs a ∙ sym (ap (λ (w : File). is_among w ys) is ∙ none_in x ys b))
  | inr f ↦
      ap (λ (b : Bool). b || is_among z xs) (sym f) ∙ (same z ∙ ap (λ (b : Bool). b || is_among z ys) f)
]

first_in : (x : File) (xs : List File) → is_among x (x ∷ xs) ≡ true
first_in x xs = ap (λ (b : Bool). b || is_among x xs) (itself x)

-- a file below the first of sorted ones is none of them
never : (x y : File) (xs ys : List File) → order x y ≡ Less → Below y ys → is_among x (x ∷ xs) ≡ is_among x (y ∷ ys) → ⊥
never x y xs ys less h same = true≢false (sym (first_in x xs) ∙ (same ∙ none_in x (y ∷ ys) (less, below_more x y ys less h)))

pub same_sorted : (xs ys : List File) → IsSortedOnce xs → IsSortedOnce ys → ((z : File) → is_among z xs ≡ is_among z ys) → xs ≡ ys
same_sorted [] [] s t same = refl
same_sorted [] (y ∷ ys) s t same = absurd (true≢false (sym (first_in y ys) ∙ sym (same y)))
same_sorted (x ∷ xs) [] s t same = absurd (true≢false (sym (first_in x xs) ∙ same x))
same_sorted (x ∷ xs) (y ∷ ys) s t same = elim (cases_order (order x y)) [
  | inl less ↦ absurd (never x y xs ys less t.0 (same x))
  | inr (inl e) ↦
      let is : x ≡ y = ties x y e in
      let rest : (z : File) → is_among z (x ∷ xs) ≡ is_among z (x ∷ ys) = λ z. same z ∙ ap (λ (w : File). is_among z (w ∷ ys)) (sym is) in
      let above-both : Below x ys = subst (λ (w : File). Below w ys) (sym is) t.0 in
      (λ i. is i ∷ same_sorted xs ys s.1 t.1 (in_tails x xs ys s.0 above-both rest) i)
  | inr (inr more) ↦ absurd (never y x ys xs (above x y more) s.0 (sym (same y)))
]

-- files in another order are the same once they are sorted
pub one_order : (xs ys : List File) → IsPermutation xs ys → distinct xs ≡ distinct ys
one_order xs ys moved = same_sorted (distinct xs) (distinct ys) (distinct_sorted xs) (distinct_sorted ys)
    (λ z. distinct_in z xs ∙ (list_any-IsPermutation (bytes_eq z) xs ys moved ∙ sym (distinct_in z ys)))

-- ---- each once

pub times_none : (x : File) (gs : List File) → is_among x gs ≡ false → times x gs ≡ 0
times_none x [] e = refl
times_none x (g ∷ gs) e = by_test (times_none x gs) (bytes_eq x g) e
  where
    by_test : (is_among x gs ≡ false → times x gs ≡ 0) → (b : Bool) → (b || is_among x gs) ≡ false → cond b 1 0 + times x gs ≡ 0
    by_test more true h = absurd (true≢false h)
    by_test more false h = omega (arith, more h)

pub times_sorted : (x : File) (gs : List File) → IsSortedOnce gs → times x gs ≡ cond (is_among x gs) 1 0
times_sorted x [] s = refl
times_sorted x (g ∷ gs) s = by_test (times_sorted x gs s.1) (bytes_eq x g) refl
  where
    by_test : times x gs ≡ cond (is_among x gs) 1 0 → (b : Bool) → bytes_eq x g ≡ b → cond b 1 0 + times x gs ≡ cond (b || is_among x gs) 1 0
    by_test more true e =
        let is : x ≡ g = (bytes_eq-Decides x g).0 e in
        let none : times x gs ≡ 0 = times_none x gs (ap (λ (w : File). is_among w gs) is ∙ none_in g gs s.0) in
        omega (arith, none)
    by_test more false e = omega (arith, more)
