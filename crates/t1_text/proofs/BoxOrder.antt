-- The one box for some boxes is the same in any order.
use Rattle.std.proofs.Common.{◌≡◌, ◌⊎◌, ℕ, Bool, true, false, cond, List, [], ◌∷◌, map, length, inl, inr, refl, sym, ap, subst, ◌∙◌}
use Rattle.std.proofs.{lemmas.Cmp.{nat_cmp_total, nat_list_cmp_total, on_total, then_total, back_total, tied_itself, upto}, lemmas.Bool.{cond-true, cond-false, cond_both, cases_Bool, true≢false}}
use Rattle.std.proofs.{lemmas.List.{nil_from_length}, lemmas.List.Elements.{All-from_recursion, All-contains, Contains-push, Contains-append_left, Contains-append_right}}
use Rattle.std.proofs.lemmas.List.Sorted.{All-permutation, Contains-permutation, list_any-IsPermutation, length_permutation}
use Rattle.std.specs.{Prelude.{◌||◌, filter}, declared.cmp.Ordering.{Ordering}, declared.cmp.Ordering.TheVariants.{Less, Equal, Greater}, Ordering.{is_gt, ordering_then, ordering_reverse}}
use Rattle.std.specs.{Cmp.{IsTotalOrder}, List.{AllByRecursion, All, Contains, fold, list_any}, List.Sorted.{IsPermutation}, FinMap.{nat_cmp-IsAntisymmetric, slice_cmp-IsAntisymmetric}}
use Rattle.t1_text.specs.{Numbers.{Size, size_cmp, below_zero, above_zero, value_cmp, spelling_cmp, least_first, greatest_first, sooner, soonest}, Boxes.{Box, says_nothing, held, joined_box}}
use Rattle.t1_text.specs.BoxLaws.{BoxInAnyOrder, HoldsBox, HoldsEach, HeldByAll}

-- ---- the orders of numbers are total

size_total : IsTotalOrder size_cmp
size_total =
    then_total (on_total (λ (s : Size). length s.whole) nat_cmp_total)
    (then_total (on_total (λ (s : Size). s.whole) nat_list_cmp_total) (on_total (λ (s : Size). s.fraction) nat_list_cmp_total))

value_total : IsTotalOrder value_cmp
value_total = then_total (back_total (on_total below_zero size_total)) (on_total above_zero size_total)

spelling_total : IsTotalOrder spelling_cmp
spelling_total = then_total (on_total length nat_cmp_total) nat_list_cmp_total

least_total : IsTotalOrder least_first
least_total = then_total value_total spelling_total

greatest_total : IsTotalOrder greatest_first
greatest_total = then_total (back_total value_total) spelling_total

-- and only a word is level with itself
second_level : (a b : Ordering) → ordering_then a b ≡ Equal → b ≡ Equal
second_level Less b e = absurd cc
second_level Equal b e = e
second_level Greater b e = absurd cc

one_spelling : (x y : List ℕ) → spelling_cmp x y ≡ Equal → x ≡ y
one_spelling x y e = slice_cmp-IsAntisymmetric nat_cmp-IsAntisymmetric x y (second_level _ _ e)

least_one : (x y : List ℕ) → least_first x y ≡ Equal → x ≡ y
least_one x y e = one_spelling x y (second_level _ _ e)

greatest_one : (x y : List ℕ) → greatest_first x y ≡ Equal → x ≡ y
greatest_one x y e = one_spelling x y (second_level _ _ e)

-- ---- the first of some words

-- m is one of these words
abbrev In : List ℕ → List (List ℕ) → Type 0
In m [] = ⊥
In m (w ∷ ws) = (m ≡ w) ⊎ In m ws

module _ (cmp : List ℕ → List ℕ → Ordering) (total : IsTotalOrder cmp) (one : (x y : List ℕ) → cmp x y ≡ Equal → x ≡ y) where
  -- w comes no later than v
  abbrev NoLater : List ℕ → List ℕ → Type 0
  NoLater w v = is_gt (cmp w v) ≡ false

  itself : (w : List ℕ) → NoLater w w
  itself w = ap is_gt (tied_itself total w)

  turned : (o : Ordering) → is_gt o ≡ true → is_gt (ordering_reverse o) ≡ false
  turned Less h = absurd (true≢false (sym h))
  turned Equal h = absurd (true≢false (sym h))
  turned Greater h = refl

  other_way : (w v : List ℕ) → is_gt (cmp w v) ≡ true → NoLater v w
  other_way w v h = ap is_gt (total.antisymm v w) ∙ turned (cmp w v) h

  level : (o : Ordering) → is_gt (ordering_reverse o) ≡ false → is_gt o ≡ false → ordering_reverse o ≡ Equal
  level Less h k = absurd (true≢false h)
  level Equal h k = refl
  level Greater h k = absurd (true≢false k)

  -- of two words one comes first, or they are the same
  same_word : (w v : List ℕ) → NoLater w v → NoLater v w → w ≡ v
  same_word w v h k = one w v (total.antisymm w v ∙ level (cmp v w) (sym (ap is_gt (total.antisymm w v)) ∙ h) k)

  first_of_two : (w v : List ℕ) → NoLater (sooner cmp w v) w × NoLater (sooner cmp w v) v
  first_of_two w v = cond_both (is_gt (cmp w v)) v w (λ m. NoLater m w × NoLater m v) (λ t. (other_way w v t, itself v)) (λ t. (itself w, t))

  first_of_all : (w : List ℕ) (ws : List (List ℕ)) →
      let m = fold (sooner cmp) w ws in NoLater m w × AllByRecursion (NoLater m) ws
  first_of_all w [] = (itself w, tt)
  first_of_all w (v ∷ vs) =
      let x : List ℕ = sooner cmp w v in
      let m : List ℕ = fold (sooner cmp) x vs in
      let rest = first_of_all x vs in
      let two = first_of_two w v in
      (upto total m x w rest.0 two.0, (upto total m x v rest.0 two.1, rest.1))

  one_of_two : (w v : List ℕ) → (sooner cmp w v ≡ w) ⊎ (sooner cmp w v ≡ v)
  one_of_two w v = cond_both (is_gt (cmp w v)) v w (λ m. (m ≡ w) ⊎ (m ≡ v)) (λ t. inr refl) (λ t. inl refl)

  one_of_all : (w : List ℕ) (ws : List (List ℕ)) → In (fold (sooner cmp) w ws) (w ∷ ws)
  one_of_all w [] = inl refl
  one_of_all w (v ∷ vs) = elim (one_of_all (sooner cmp w v) vs) [
    | inl e ↦ elim (one_of_two w v) [
      | inl k ↦ inl (e ∙ k)
      | inr k ↦ inr (inl (e ∙ k))
    ]
    | inr h ↦ inr (inr h)
  ]

  -- ---- the first word of boxes that pass a test

  module _ (word : Box → List ℕ) (q : Box → Bool) where
    -- m is the word of a box that passes, and comes no later than that of any other
    record Best (bs : List Box) (m : List ℕ) : Type 0 where
      own : Box
      there : Contains bs own
      passes : q own ≡ true
      is : word own ≡ m
      first : All (λ c. q c ≡ true → NoLater m (word c)) bs

    best_one : (bs : List Box) (m n : List ℕ) → Best bs m → Best bs n → m ≡ n
    best_one bs m n h k =
        same_word m n (subst (NoLater m) k.is (All-contains (λ c. q c ≡ true → NoLater m (word c)) bs k.own h.first k.there k.passes))
        (subst (NoLater n) h.is (All-contains (λ c. q c ≡ true → NoLater n (word c)) bs h.own k.first h.there h.passes))

    best_moves : (bs cs : List Box) (m : List ℕ) → IsPermutation bs cs → Best bs m → Best cs m
    best_moves bs cs m p h = record {
      own = h.own;
      there = Contains-permutation bs cs h.own p h.there;
      passes = h.passes;
      is = h.is;
      first = All-permutation (λ c. q c ≡ true → NoLater m (word c)) bs cs p h.first;
    }

    -- a box that passes, and has this word
    abbrev Found : List Box → List ℕ → Type 0
    Found bs m = (b : Box) × Contains bs b × (q b ≡ true) × (word b ≡ m)

    found_later : (b : Box) (bs : List Box) (m : List ℕ) → Found bs m → Found (b ∷ bs) m
    found_later b bs m f = (f.0, Contains-append_right (b ∷ []) bs f.0 f.1, f.2, f.3)

    found_in : (bs : List Box) (m : List ℕ) → In m (map word (filter q bs)) → Found bs m
    found_in [] m h = absurd h
    found_in (b ∷ bs) m h = by_test (q b) refl h (found_in bs m)
      where
        by_test : (t : Bool) → q b ≡ t → In m (map word (cond t (b ∷ filter q bs) (filter q bs))) →
            (In m (map word (filter q bs)) → Found bs m) → Found (b ∷ bs) m
        by_test true e (inl k) later = (b, Contains-append_left (b ∷ []) bs b (Contains-push [] b), e, sym k)
        by_test true e (inr k) later = found_later b bs m (later k)
        by_test false e k later = found_later b bs m (later k)

    first_in : (bs : List Box) (m : List ℕ) → AllByRecursion (NoLater m) (map word (filter q bs)) → AllByRecursion (λ c. q c ≡ true → NoLater m (word c)) bs
    first_in [] m h = tt
    first_in (b ∷ bs) m h = by_test (q b) refl h (first_in bs m)
      where
        by_test : (t : Bool) → q b ≡ t → AllByRecursion (NoLater m) (map word (cond t (b ∷ filter q bs) (filter q bs))) →
            (AllByRecursion (NoLater m) (map word (filter q bs)) → AllByRecursion (λ c. q c ≡ true → NoLater m (word c)) bs) →
            AllByRecursion (λ c. q c ≡ true → NoLater m (word c)) (b ∷ bs)
        by_test true e k later = (λ _. k.0, later k.1)
        by_test false e k later = (λ t. absurd (true≢false (sym t ∙ e)), later k)

    some_pass : (bs : List Box) → list_any q bs ≡ true → filter q bs ≡ [] → ⊥
    some_pass [] h e = true≢false (sym h)
    some_pass (b ∷ bs) h e = by_test (q b) h e (some_pass bs)
      where
        by_test : (t : Bool) → (t || list_any q bs) ≡ true → cond t (b ∷ filter q bs) (filter q bs) ≡ [] →
            (list_any q bs ≡ true → filter q bs ≡ [] → ⊥) → ⊥
        by_test true k n later = cc
        by_test false k n later = later k n

    best_is : (bs : List Box) → list_any q bs ≡ true → Best bs (soonest cmp (map word (filter q bs)))
    best_is bs h = by_found (filter q bs) refl
      where
        by_found : (xs : List Box) → filter q bs ≡ xs → Best bs (soonest cmp (map word xs))
        by_found [] e = absurd (some_pass bs h e)
        by_found (x ∷ xs) e =
            let m : List ℕ = fold (sooner cmp) (word x) (map word xs) in
            let f = found_in bs m (subst (λ (ys : List Box). In m (map word ys)) (sym e) (one_of_all (word x) (map word xs))) in
            record {
              own = f.0;
              there = f.1;
              passes = f.2;
              is = f.3;
              first = All-from_recursion _ bs
                  (first_in bs m (subst (λ (ys : List Box). AllByRecursion (NoLater m) (map word ys)) (sym e) (first_of_all (word x) (map word xs))));
            }

    -- the first word is the same in any order
    same_soonest : (bs cs : List Box) → IsPermutation bs cs → list_any q bs ≡ true →
        soonest cmp (map word (filter q bs)) ≡ soonest cmp (map word (filter q cs))
    same_soonest bs cs p h =
        best_one cs _ _ (best_moves bs cs _ p (best_is bs h)) (best_is cs (sym (list_any-IsPermutation q bs cs p) ∙ h))

-- ---- boxes

held_same : (q : Box → Bool) (bs cs : List Box) → IsPermutation bs cs → list_any q bs ≡ true → held (filter q bs) ≡ held (filter q cs)
held_same q bs cs p h = λ i. record {
  llx = same_soonest least_first least_total least_one (λ b. b.llx) q bs cs p h i;
  lly = same_soonest least_first least_total least_one (λ b. b.lly) q bs cs p h i;
  urx = same_soonest greatest_first greatest_total greatest_one (λ b. b.urx) q bs cs p h i;
  ury = same_soonest greatest_first greatest_total greatest_one (λ b. b.ury) q bs cs p h i;
}

-- each box passes
abbrev any_box : Box → Bool
any_box b = true

all_pass : (bs : List Box) → filter any_box bs ≡ bs
all_pass [] = refl
all_pass (b ∷ bs) = ap (λ (cs : List Box). b ∷ cs) (all_pass bs)

held_all : (bs cs : List Box) → IsPermutation bs cs → held bs ≡ held cs
held_all [] cs p = ap held (sym (nil_from_length cs (length_permutation [] cs p)))
held_all (b ∷ bs) cs p = sym (ap held (all_pass (b ∷ bs))) ∙ (held_same any_box (b ∷ bs) cs p refl ∙ ap held (all_pass cs))

pub in_any_order : BoxInAnyOrder
in_any_order bs cs p = elim (cases_Bool (list_any says_nothing bs)) [
  | inl t ↦ ap held (cond-true (list_any says_nothing bs) (filter says_nothing bs) bs t)
      ∙ (held_same says_nothing bs cs p t
      ∙ sym (ap held (cond-true (list_any says_nothing cs) (filter says_nothing cs) cs (sym (list_any-IsPermutation says_nothing bs cs p) ∙ t))))
  | inr t ↦ ap held (cond-false (list_any says_nothing bs) (filter says_nothing bs) bs t)
      ∙ (held_all bs cs p
      ∙ sym (ap held (cond-false (list_any says_nothing cs) (filter says_nothing cs) cs (sym (list_any-IsPermutation says_nothing bs cs p) ∙ t))))
]

-- ---- the one box is the least that holds each

value_first : (a b : Ordering) → is_gt (ordering_then a b) ≡ false → is_gt a ≡ false
value_first Less b h = refl
value_first Equal b h = refl
value_first Greater b h = h

-- what holds of the words of boxes, one by one
boxes_held : (u : Box) (bs : List Box) → AllByRecursion (λ w. is_gt (least_first u.llx w) ≡ false) (map (λ b. b.llx) bs) →
    AllByRecursion (λ w. is_gt (least_first u.lly w) ≡ false) (map (λ b. b.lly) bs) →
    AllByRecursion (λ w. is_gt (greatest_first u.urx w) ≡ false) (map (λ b. b.urx) bs) →
    AllByRecursion (λ w. is_gt (greatest_first u.ury w) ≡ false) (map (λ b. b.ury) bs) → AllByRecursion (HoldsBox u) bs
boxes_held u [] h k l m = tt
boxes_held u (b ∷ bs) h k l m = (
  record {
    llx = value_first (value_cmp u.llx b.llx) (spelling_cmp u.llx b.llx) h.0;
    lly = value_first (value_cmp u.lly b.lly) (spelling_cmp u.lly b.lly) k.0;
    urx = value_first (value_cmp b.urx u.urx) (spelling_cmp u.urx b.urx) l.0;
    ury = value_first (value_cmp b.ury u.ury) (spelling_cmp u.ury b.ury) m.0;
  },
  boxes_held u bs h.1 k.1 l.1 m.1,
)

-- some boxes, none of which says nothing, all count
all_count : (bs : List Box) → list_any says_nothing bs ≡ false → joined_box bs ≡ held bs
all_count bs h = ap held (cond-false (list_any says_nothing bs) (filter says_nothing bs) bs h)

pub holds_each : HoldsEach
holds_each [] h = tt
holds_each (b ∷ bs) h =
    let x = first_of_all least_first least_total least_one b.llx (map (λ c. c.llx) bs) in
    let y = first_of_all least_first least_total least_one b.lly (map (λ c. c.lly) bs) in
    let z = first_of_all greatest_first greatest_total greatest_one b.urx (map (λ c. c.urx) bs) in
    let w = first_of_all greatest_first greatest_total greatest_one b.ury (map (λ c. c.ury) bs) in
    subst (λ (u : Box). AllByRecursion (HoldsBox u) (b ∷ bs)) (sym (all_count (b ∷ bs) h)) (boxes_held (held (b ∷ bs)) (b ∷ bs) x y z w)

-- what holds of each word holds of the first
first_has : (cmp : List ℕ → List ℕ → Ordering) (P : List ℕ → Type 0) (w : List ℕ) (ws : List (List ℕ)) →
    P w → AllByRecursion P ws → P (fold (sooner cmp) w ws)
first_has cmp P w [] h k = h
first_has cmp P w (v ∷ vs) h k = first_has cmp P (sooner cmp w v) vs (cond_both (is_gt (cmp w v)) v w P (λ _. k.0) (λ _. h)) k.1

words_have : (P : List ℕ → Type 0) (word : Box → List ℕ) (u : Box) → ((b : Box) → HoldsBox u b → P (word b)) → (bs : List Box) →
    AllByRecursion (HoldsBox u) bs → AllByRecursion P (map word bs)
words_have P word u f [] h = tt
words_have P word u f (b ∷ bs) h = (f b h.0, words_have P word u f bs h.1)

pub held_by_all : HeldByAll
held_by_all u b bs n h =
    subst (HoldsBox u) (sym (all_count (b ∷ bs) n)) (record {
      llx = let P : List ℕ → Type 0 = λ w. is_gt (value_cmp u.llx w) ≡ false in
          first_has least_first P b.llx (map (λ c. c.llx) bs) h.0.llx (words_have P (λ c. c.llx) u (λ c k. k.llx) bs h.1);
      lly = let P : List ℕ → Type 0 = λ w. is_gt (value_cmp u.lly w) ≡ false in
          first_has least_first P b.lly (map (λ c. c.lly) bs) h.0.lly (words_have P (λ c. c.lly) u (λ c k. k.lly) bs h.1);
      urx = let P : List ℕ → Type 0 = λ w. is_gt (value_cmp w u.urx) ≡ false in
          first_has greatest_first P b.urx (map (λ c. c.urx) bs) h.0.urx (words_have P (λ c. c.urx) u (λ c k. k.urx) bs h.1);
      ury = let P : List ℕ → Type 0 = λ w. is_gt (value_cmp w u.ury) ≡ false in
          first_has greatest_first P b.ury (map (λ c. c.ury) bs) h.0.ury (words_have P (λ c. c.ury) u (λ c k. k.ury) bs h.1);
    })
