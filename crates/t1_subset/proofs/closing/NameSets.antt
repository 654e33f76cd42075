-- Names as finite sets: in the order of their bytes, and added to a set one after another.
use Rattle.std.proofs.Common.{◌≡◌, ℕ, Bool, ◌||◌, List, [], ◌∷◌, ◌++◌, refl, sym, ◌∙◌, ap, Ordering, Less, Equal, Greater, ◌<◌, ◌+◌, length, take, get_or, arith, Bor}
use Rattle.std.proofs.{lemmas.List.{map-append, take_more}, lemmas.Grind.{common_steps}}
use Rattle.std.specs.{Global.{Vec}, List.{list_any, AllByRecursion}, List.Sorted.{IsStrictlySortedBy}, Ordering.{eq_by_cmp, match_ordering}, Cmp.Lexicographic.{nat_list_cmp_total}}
use Rattle.std.specs.{BTreeSet.{insert_key}, FinSet.{IsAntisymmetric}}
use Rattle.t1_font.specs.FontValue.{name_cmp}
use Rattle.t1_algebra.{specs.Interpreter.{Names}, proofs.Sets.{cases, name_same}}
use Rattle.t1_subset.specs.NameSets.{listed_names, set_by, lent}
use Rattle.std.specs.FinSet as sets

-- ---- names in memory

-- a list of things in the order of their keys, with one more, has that key and those that it had
pub any_insert : {V K : Type 0} (R : K → K → Ordering) → IsAntisymmetric R → (key : V → K) (q : K) (v : V) (vs : List V)
    → list_any (λ w. eq_by_cmp R q (key w)) (insert_key (λ v w. R (key v) (key w)) vs v) ≡ (eq_by_cmp R q (key v) || list_any (λ w. eq_by_cmp R q (key w)) vs)
any_insert R same key q v [] = refl
any_insert {V} R same key q v (w ∷ vs) =
    let by = λ (v w : V). R (key v) (key w) in let is = λ (w : V). eq_by_cmp R q (key w) in
    elim (by v w) as (λ o. by v w ≡ o → list_any is (match_ordering o (v ∷ w ∷ vs) (w ∷ vs) (w ∷ insert_key by vs v)) ≡ (is v || list_any is (w ∷ vs))) [
      | Less ↦ λ h. refl
      | Equal ↦ λ h. let e = same (key v) (key w) h in grind (cases, e)
      | Greater ↦ λ h. grind (cases, any_insert R same key q v vs)
    ] refl

-- the order of names in memory by their bytes
abbrev pub by_bytes : Vec ℕ → Vec ℕ → Ordering
by_bytes v w = name_cmp v.items w.items

any_named : (p : List ℕ → Bool) (vs : List (Vec ℕ)) → list_any p (listed_names vs) ≡ list_any (λ w. p w.items) vs
any_named p [] = refl
any_named p (v ∷ vs) = ap (λ b. p v.items || b) (any_named p vs)

-- inserting a name in memory inserts it into the set
pub set_insert : (vs : List (Vec ℕ)) (v : Vec ℕ) → set_by (insert_key by_bytes vs v) ≡ sets.insert (set_by vs) v.items
set_insert vs v = sets.same_set nat_list_cmp_total name_same _ _ (λ q.
    sets.contains-from_list nat_list_cmp_total (listed_names (insert_key by_bytes vs v)) q
    ∙ any_named (eq_by_cmp name_cmp q) (insert_key by_bytes vs v)
    ∙ any_insert name_cmp name_same (λ w. w.items) q v vs
    ∙ ap (λ b. eq_by_cmp name_cmp q v.items || b) (sym (sets.contains-from_list nat_list_cmp_total (listed_names vs) q ∙ any_named (eq_by_cmp name_cmp q) vs))
    ∙ sym (sets.contains-insert nat_list_cmp_total (set_by vs) v.items q))

all_names : (v : Vec ℕ) (vs : List (Vec ℕ)) → AllByRecursion (λ y. by_bytes v y ≡ Less) vs → AllByRecursion (λ y. name_cmp v.items y ≡ Less) (listed_names vs)
all_names v [] h = tt
all_names v (w ∷ vs) h = (h.0, all_names v vs h.1)

-- names in memory that rise are bytes that rise
pub sorted_names : (vs : List (Vec ℕ)) → IsStrictlySortedBy by_bytes vs → IsStrictlySortedBy name_cmp (listed_names vs)
unfolding IsStrictlySortedBy
sorted_names [] h = tt
sorted_names (v ∷ vs) h = (all_names v vs h.0, sorted_names vs h.1)

-- if nothing is left, all is taken
pub all_taken : (taken left all : List (Vec ℕ)) → left ≡ [] → taken ++ left ≡ all → taken ≡ all
all_taken taken left all h e = grind (arith, common_steps)

-- as one more name of a list is added to a set, the set is that of one more name
pub copy_step : (copies new : Names) (ns : List (Bor (List ℕ))) (i : ℕ) (v : List ℕ) (d : Bor (List ℕ)) → i < length ns →
    v ≡ (get_or ns i d).now → new ≡ sets.insert copies v → copies ≡ sets.from_list (lent (take i ns)) → new ≡ sets.from_list (lent (take (i + 1) ns))
copy_step copies new ns i v d h e is far =
    let more = ap lent (take_more ns i d h) ∙ map-append _ (take i ns) (get_or ns i d ∷ []) in
    is ∙ (λ j. sets.insert (far j) (e j)) ∙ sym (ap (λ (ks : List (List ℕ)). sets.from_list {R = name_cmp} ks) more
    ∙ sets.from_list_push nat_list_cmp_total name_same (lent (take i ns)) (get_or ns i d).now)
