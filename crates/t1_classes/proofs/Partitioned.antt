-- The laws of classes.
use Rattle.std.proofs.Common.{◌≡◌, ◌<◌, ◌≤◌, ◌+◌, ◌-◌, ◌∙◌, ◌∷◌}
use Rattle.std.proofs.Common.{ℕ, zero, suc, nat_eq, nat_lt, Bool, true, false, cond, refl, sym, ap, subst, arith, inl, inr, List, [], length, get_or, map, Option, Some, None}
use Rattle.std.proofs.lemmas.{Bool.{cases_Bool, true≢false, ltb-true, ltb-false, eqb-true, eqb-false, false_from_ne_true}, Option.{none-some}, Slice.Eq.{bytes_eq-Decides}}
use Rattle.std.proofs.Math.Bool.{and-false, or-true}
use Rattle.std.specs.{Prelude.{◌||◌, ◌&&◌}, List.{AllByRecursion, list_any}, Str.{bytes_eq}}
use Rattle.t1_classes.specs.{declared.classes.Class.{Class}, declared.classes.Content.{Content}, declared.classes.Content.TheVariants.{Same, Joined, Refused}}
use Rattle.t1_classes.specs.{Partition.{File, is_among, distinct, groups_from, groups_of_distinct}, Joining.{joins}}
use Rattle.t1_classes.specs.Classes.{places_from, IsContent, IsClass, AreOthers, AreClasses, text_of}
use Rattle.t1_classes.specs.Laws.{groups_under, is_member, classes_with, InAnyOrder, ClassesJoin, NoTwoJoin, EachInOneClass, EqualTogether}
use Rattle.t1_classes.proofs.Refusing.{refused_none, none_fails}
use Rattle.t1_classes.proofs.SortedFiles.{times, one_order, distinct_sorted, distinct_in, times_none, times_sorted}
use Rattle.t1_classes.proofs.{Kept.{all_files, times_append, times_groups}, Settled.{times_settled, none_left, no_two_join, groups_join, settled_join}}

-- ---- each class of several files joins, and no two do

pub classes_join : ClassesJoin
classes_join name files = settled_join (joins name) _ _ (groups_join (joins name) (length (distinct files)) (distinct files))

pub none_join : NoTwoJoin
none_join name files i j less lt =
    let gs = groups_from (joins name) (length (distinct files)) (distinct files) in
    no_two_join (joins name) 0 (groups_under name files) (none_left (joins name) (length gs) gs (omega arith)) i j less lt

-- ---- members

unequal : (k i : ℕ) → (k ≡ i → ⊥) → nat_eq k i ≡ false
unequal k i no_way = false_from_ne_true (nat_eq k i) (λ e. no_way (eqb-true k i e))

either : (b c : Bool) (k i : ℕ) (r : List ℕ) → nat_eq k i ≡ c → list_any (nat_eq k) (cond b (i ∷ r) r) ≡ ((b && c) || list_any (nat_eq k) r)
either true c k i r e = ap (λ (d : Bool). d || list_any (nat_eq k) r) e
either false c k i r e = refl

-- a number below the places is none of them
below : (k i : ℕ) (fs g : List File) → k < i → list_any (nat_eq k) (places_from i fs g) ≡ false
below k i [] g lt = refl
below k i (f ∷ fs) g lt =
    either (is_among f g) false k i (places_from (i + 1) fs g) (unequal k i (λ e. omega (arith, e, lt)))
    ∙ (ap (λ (b : Bool). b || list_any (nat_eq k) (places_from (i + 1) fs g)) (and-false (is_among f g)) ∙ below k (i + 1) fs g (omega (arith, lt)))

-- so is one behind them
behind : (k i : ℕ) (fs g : List File) → i + length fs ≤ k → list_any (nat_eq k) (places_from i fs g) ≡ false
behind k i [] g le = refl
behind k i (f ∷ fs) g le =
    either (is_among f g) false k i (places_from (i + 1) fs g) (unequal k i (λ e. omega (arith, e, le)))
    ∙ (ap (λ (b : Bool). b || list_any (nat_eq k) (places_from (i + 1) fs g)) (and-false (is_among f g)) ∙ behind k (i + 1) fs g (omega (arith, le)))

above : (k i : ℕ) → i ≤ k → (k ≡ i → ⊥) → i < k
above k i le h = elim (cases_Bool (nat_lt i k)) [
  | inl t ↦ ltb-true i k t
  | inr f ↦ absurd (h (omega (arith, le, ltb-false i k f)))
]

plain : (b : Bool) → ((b && true) || false) ≡ b
plain true = refl
plain false = refl

-- the place of a file is one if the file is among those of the group
within : (k i : ℕ) (fs g : List File) → i ≤ k → k < i + length fs → list_any (nat_eq k) (places_from i fs g) ≡ is_among (get_or fs (k - i) []) g
within k i [] g le lt = absurd (omega (arith, le, lt))
within k i (f ∷ fs) g le lt = by_test (within k (i + 1) fs g) (nat_eq k i) refl
  where
    by_test : (i + 1 ≤ k → k < i + 1 + length fs → list_any (nat_eq k) (places_from (i + 1) fs g) ≡ is_among (get_or fs (k - (i + 1)) []) g) → (b : Bool) →
        nat_eq k i ≡ b → list_any (nat_eq k) (places_from i (f ∷ fs) g) ≡ is_among (get_or (f ∷ fs) (k - i) []) g
    by_test more true e =
        let here : k ≡ i = eqb-true k i e in
        let none : 0 ≡ k - i = omega (arith, here) in
        either (is_among f g) true k i (places_from (i + 1) fs g) e
        ∙ (ap (λ (b : Bool). (is_among f g && true) || b) (below k (i + 1) fs g (omega (arith, here)))
        ∙ (plain (is_among f g) ∙ ap (λ (n : ℕ). is_among (get_or (f ∷ fs) n []) g) none))
    by_test more false e =
        let apart : i < k = above k i le (eqb-false k i e) in
        let later : suc (k - (i + 1)) ≡ k - i = omega (arith, le, apart) in
        either (is_among f g) false k i (places_from (i + 1) fs g) e
        ∙ (ap (λ (b : Bool). b || list_any (nat_eq k) (places_from (i + 1) fs g)) (and-false (is_among f g))
        ∙ (more (omega (arith, le, apart)) (omega (arith, lt)) ∙ ap (λ (n : ℕ). is_among (get_or (f ∷ fs) n []) g) later))

-- ---- the classes of groups

-- each is the class of its group
abbrev EachIs : List ℕ → List File → List (List File) → List Class → Type 0
EachIs name files [] [] = Unit {0}
EachIs name files [] (c ∷ cs) = ⊥
EachIs name files (g ∷ gs) [] = ⊥
EachIs name files (g ∷ gs) (c ∷ cs) = IsClass name files g c × EachIs name files gs cs

others_each : (name : List ℕ) (files first : List File) (gs : List (List File)) (cs : List Class) → AreOthers name files first gs cs → EachIs name files gs cs
others_each name files first [] [] h = tt
others_each name files first [] (c ∷ cs) h = h
others_each name files first (g ∷ gs) [] h = h
others_each name files first (g ∷ gs) (c ∷ cs) h = (h.0.0, others_each name files first gs cs h.1)

each_is : (name : List ℕ) (files : List File) (gs : List (List File)) (cs : List Class) → AreClasses name files gs cs → EachIs name files gs cs
each_is name files [] [] h = tt
each_is name files [] (c ∷ cs) h = h
each_is name files (g ∷ gs) [] h = h
each_is name files (g ∷ gs) (c ∷ cs) h = (h.0.0, others_each name files g gs cs h.1)

-- ---- one text

one_text : (name : List ℕ) (g : List File) (a b : Content) → IsContent name g a → IsContent name g b → text_of a ≡ text_of b
one_text name g (Same t) (Same u) h k = ap head (sym h.0 ∙ k.0)
  where
    head : List File → Option (List ℕ)
    head [] = None
    head (x ∷ xs) = Some x
one_text name g (Same t) (Joined u) h k = absurd (true≢false (ap (λ (l : List File). nat_eq (length l) 1) (sym h.0) ∙ k.0))
one_text name g (Same t) (Refused why) h k = absurd (true≢false (sym h.1 ∙ none_fails name g (refused_none name g why k)))
one_text name g (Joined t) (Same u) h k = absurd (true≢false (ap (λ (l : List File). nat_eq (length l) 1) (sym k.0) ∙ h.0))
one_text name g (Joined t) (Joined u) h k = sym h.1 ∙ k.1
one_text name g (Joined t) (Refused why) h k = absurd (none-some _ (sym (refused_none name g why k) ∙ h.1))
one_text name g (Refused why) (Same u) h k = absurd (true≢false (sym k.1 ∙ none_fails name g (refused_none name g why h)))
one_text name g (Refused why) (Joined u) h k = absurd (none-some _ (sym (refused_none name g why h) ∙ k.1))
one_text name g (Refused why) (Refused other) h k = refl

same_texts : (name : List ℕ) (files others : List File) (gs : List (List File)) (cs ds : List Class) → EachIs name files gs cs → EachIs name others gs ds →
    map (λ c. text_of c.content) cs ≡ map (λ c. text_of c.content) ds
same_texts name files others [] [] [] h k = refl
same_texts name files others [] [] (d ∷ ds) h k = absurd k
same_texts name files others [] (c ∷ cs) ds h k = absurd h
same_texts name files others (g ∷ gs) [] ds h k = absurd h
same_texts name files others (g ∷ gs) (c ∷ cs) [] h k = absurd k
same_texts name files others (g ∷ gs) (c ∷ cs) (d ∷ ds) h k = λ i.
    one_text name g c.content d.content h.0.content k.0.content i ∷ same_texts name files others gs cs ds h.1 k.1 i

pub any_order : InAnyOrder
any_order name files others moved =
    let same : groups_under name files ≡ groups_under name others = ap (groups_of_distinct (joins name)) (one_order files others moved) in (
      same,
      λ cs ds h k.
          same_texts name files others (groups_under name files) cs ds (each_is name files _ cs h)
          (subst (λ (gs : List (List File)). EachIs name others gs ds) (sym same) (each_is name others _ ds k)),
    )

-- ---- one class

-- in how many of the groups a file is
abbrev groups_with : File → List (List File) → ℕ
groups_with x [] = 0
groups_with x (g ∷ gs) = cond (is_among x g) 1 0 + groups_with x gs

times_some : (x : File) (g : List File) → is_among x g ≡ true → 1 ≤ times x g
times_some x [] e = absurd (true≢false (sym e))
times_some x (f ∷ g) e = by_test (times_some x g) (bytes_eq x f) e
  where
    by_test : (is_among x g ≡ true → 1 ≤ times x g) → (b : Bool) → (b || is_among x g) ≡ true → 1 ≤ cond b 1 0 + times x g
    by_test more true h = omega arith
    by_test more false h = omega (arith, more h)

once : (x : File) (g : List File) → times x g ≤ 1 → cond (is_among x g) 1 0 ≡ times x g
once x g le = by_test (is_among x g) refl
  where
    by_test : (b : Bool) → is_among x g ≡ b → cond b 1 0 ≡ times x g
    by_test true e = omega (arith, le, times_some x g e)
    by_test false e = sym (times_none x g e)

with_once : (x : File) (gs : List (List File)) → times x (all_files gs) ≤ 1 → groups_with x gs ≡ times x (all_files gs)
with_once x [] le = refl
with_once x (g ∷ gs) le =
    let both = times_append x g (all_files gs) in
    let own = once x g (omega (arith, le, both)) in
    let rest = with_once x gs (omega (arith, le, both)) in
    omega (arith, both, own, rest)

-- each file is in one group
groups_times : (name : List ℕ) (files : List File) (x : File) → times x (all_files (groups_under name files)) ≡ cond (is_among x files) 1 0
groups_times name files x =
    let ds = distinct files in
    let gs = groups_from (joins name) (length ds) ds in
    times_settled x (joins name) (length gs) gs
    ∙ (times_groups x (joins name) (length ds) ds
    ∙ (times_sorted x ds (distinct_sorted files) ∙ ap (λ (b : Bool). cond b 1 0) (distinct_in x files)))

-- what is asked of a place in classes is asked of its file in their groups
with_file : (name : List ℕ) (files : List File) (k : ℕ) → k < length files → (gs : List (List File)) (cs : List Class) → EachIs name files gs cs →
    classes_with k cs ≡ groups_with (get_or files k []) gs
with_file name files k lt [] [] h = refl
with_file name files k lt [] (c ∷ cs) h = absurd h
with_file name files k lt (g ∷ gs) [] h = absurd h
with_file name files k lt (g ∷ gs) (c ∷ cs) h =
    let same : k - 0 ≡ k = omega arith in
    let here : is_member k c ≡ is_among (get_or files k []) g =
    ap (λ (ms : List ℕ). list_any (nat_eq k) ms) h.0.members
    ∙ (within k 0 files g (omega arith) (omega (arith, lt)) ∙ ap (λ (n : ℕ). is_among (get_or files n []) g) same) in
    λ i. cond (here i) 1 0 + with_file name files k lt gs cs h.1 i

with_none : (name : List ℕ) (files : List File) (k : ℕ) → length files ≤ k → (gs : List (List File)) (cs : List Class) → EachIs name files gs cs →
    classes_with k cs ≡ 0
with_none name files k le [] [] h = refl
with_none name files k le [] (c ∷ cs) h = absurd h
with_none name files k le (g ∷ gs) [] h = absurd h
with_none name files k le (g ∷ gs) (c ∷ cs) h =
    let here : is_member k c ≡ false = ap (λ (ms : List ℕ). list_any (nat_eq k) ms) h.0.members ∙ behind k 0 files g (omega (arith, le)) in
    let rest = with_none name files k le gs cs h.1 in
    ap (λ (b : Bool). cond b 1 0 + classes_with k cs) here ∙ omega (arith, rest)

-- a file is among the files
file_among : (fs : List File) (k : ℕ) → k < length fs → is_among (get_or fs k []) fs ≡ true
file_among [] k lt = absurd (omega (arith, lt))
file_among (f ∷ fs) zero lt = ap (λ (b : Bool). b || is_among f fs) ((bytes_eq-Decides f f).1 refl)
file_among (f ∷ fs) (suc k) lt = ap (λ (b : Bool). bytes_eq (get_or fs k []) f || b) (file_among fs k (omega (arith, lt)))
    ∙ or-true (bytes_eq (get_or fs k []) f)

pub one_class : EachInOneClass
one_class name files cs h k = by_test (nat_lt k (length files)) refl
  where
    by_test : (b : Bool) → nat_lt k (length files) ≡ b → classes_with k cs ≡ cond b 1 0
    by_test true e =
        let lt = ltb-true k (length files) e in
        let x = get_or files k [] in
        let one : times x (all_files (groups_under name files)) ≡ 1 =
        groups_times name files x ∙ ap (λ (b : Bool). cond b 1 0) (file_among files k lt) in
        with_file name files k lt (groups_under name files) cs (each_is name files (groups_under name files) cs h)
        ∙ (with_once x (groups_under name files) (omega (arith, one)) ∙ one)
    by_test false e = with_none name files k (ltb-false k (length files) e) (groups_under name files) cs (each_is name files (groups_under name files) cs h)

less_none : (n : ℕ) → n - 0 ≡ n
less_none n = omega arith

pub equal_together : EqualTogether
equal_together name files cs h i j a b same = by_class (groups_under name files) cs (each_is name files (groups_under name files) cs h)
  where
    by_class : (gs : List (List File)) (ds : List Class) → EachIs name files gs ds → AllByRecursion (λ c. is_member i c ≡ is_member j c) ds
    by_class [] [] k = tt
    by_class [] (d ∷ ds) k = absurd k
    by_class (g ∷ gs) [] k = absurd k
    by_class (g ∷ gs) (d ∷ ds) k =
        let at : (n : ℕ) → n < length files → is_member n d ≡ is_among (get_or files n []) g = λ n lt.
        ap (λ (ms : List ℕ). list_any (nat_eq n) ms) k.0.members
        ∙ (within n 0 files g (omega arith) (omega (arith, lt)) ∙ ap (λ (m : ℕ). is_among (get_or files m []) g) (less_none n)) in
        (at i a ∙ (ap (λ (x : File). is_among x g) same ∙ sym (at j b)), by_class gs ds k.1)
