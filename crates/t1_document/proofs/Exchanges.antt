-- Lists in which two neighbours are exchanged.
use Rattle.std.proofs.Common.{◌≡◌, zero, suc, set, ltb, ◌<◌, ◌+◌, ◌-◌, ℕ, Bool, true, false, cond, refl, sym, ◌∙◌, ap, subst, arith, append_assoc, List, [], ◌∷◌, ◌++◌, length, get_or, filter}
use Rattle.std.proofs.{Common.{IsPermutation}, lemmas.Bool.{ltb-true, ltb-false}, lemmas.List.{length-append, get_or_at, set_at, set_comm, set-get_or}, lemmas.List.Elements.{filter-append}}
use Rattle.std.proofs.lemmas.Grind.{flat_map-append}
use Rattle.std.proofs.lemmas.List.Sorted.{IsPermutation-keeps, IsPermutation-refl, IsPermutation-trans, IsPermutation-append_right, IsPermutation-append_left, IsPermutation-append_comm}
use Rattle.std.proofs.lemmas.List.Edits.{swap_is}
use Rattle.std.specs.List.{AllByRecursion, flat_map, swap}

-- two lists that are the same but for two neighbours, which change places
pub record Exchanged {X : Type 0} (xs ys : List X) : Type 0 where
  pub front : List X
  pub x : X
  pub y : X
  pub back : List X
  pub before : xs ≡ front ++ x ∷ y ∷ back
  pub after : ys ≡ front ++ y ∷ x ∷ back

-- ---- elements by their places

-- the element at a place, and what stands before and behind it
record At {X : Type 0} (xs : List X) (i : ℕ) : Type 0 where
  front : List X
  x : X
  back : List X
  is : xs ≡ front ++ x ∷ back
  long : length front ≡ i

at : {X : Type 0} (xs : List X) (i : ℕ) → i < length xs → At xs i
at [] i h = absurd (omega (arith, h))
at (x ∷ xs) zero h = record { front = []; x = x; back = xs; is = refl; long = refl }
at (x ∷ xs) (suc i) h =
    let a = at xs i (omega (arith, h)) in
    record { front = x ∷ a.front; x = a.x; back = a.back; is = ap (λ (ys : List _). x ∷ ys) a.is; long = ap suc a.long }

-- ---- what stays in another order

module _ {X : Type 0} (P : List X → Type 0) (exchange : (xs ys : List X) → Exchanged xs ys → P xs → P ys) where
  near : (front : List X) (x y : X) (back : List X) → P (front ++ x ∷ y ∷ back) → P (front ++ y ∷ x ∷ back)
  near front x y back h =
      exchange (front ++ x ∷ y ∷ back) (front ++ y ∷ x ∷ back) (record { front = front; x = x; y = y; back = back; before = refl; after = refl }) h

  -- elements with others between them change places
  far : (front : List X) (x : X) (mid : List X) (y : X) (back : List X) → P (front ++ x ∷ (mid ++ y ∷ back)) → P (front ++ y ∷ (mid ++ x ∷ back))
  far front x [] y back h = near front x y back h
  far front x (m ∷ mid) y back h =
      let first = near front x m (mid ++ y ∷ back) h in
      let then = far (front ++ m ∷ []) x mid y back (subst P (sym (append_assoc front (m ∷ []) (x ∷ (mid ++ y ∷ back)))) first) in
      near front m y (mid ++ x ∷ back) (subst P (append_assoc front (m ∷ []) (y ∷ (mid ++ x ∷ back))) then)

  -- elements at two places change places
  apart : (l : List X) (i j : ℕ) → i < j → j < length l → P l → P (swap l i j)
  apart l i j less within h =
      let a = at l i (omega (arith, less, within)) in
      let long : length l ≡ i + 1 + length a.back = omega (arith, ap length a.is, length-append a.front (a.x ∷ a.back), a.long) in
      let b = at a.back (j - i - 1) (omega (arith, less, within, long)) in
      let whole : l ≡ a.front ++ a.x ∷ (b.front ++ b.x ∷ b.back) = a.is ∙ ap (λ (r : List X). a.front ++ a.x ∷ r) b.is in
      let grouped : l ≡ (a.front ++ a.x ∷ b.front) ++ b.x ∷ b.back = whole ∙ sym (append_assoc a.front (a.x ∷ b.front) (b.x ∷ b.back)) in
      let at_j : length (a.front ++ a.x ∷ b.front) ≡ j = omega (arith, length-append a.front (a.x ∷ b.front), a.long, b.long, less) in
      let at_j_too : length (a.front ++ b.x ∷ b.front) ≡ j = omega (arith, length-append a.front (b.x ∷ b.front), a.long, b.long, less) in
      let one : get_or l i a.x ≡ a.x = ap (λ (v : List X). get_or v i a.x) a.is ∙ get_or_at a.front a.x a.back a.x i a.long in
      let other : get_or l j a.x ≡ b.x = ap (λ (v : List X). get_or v j a.x) grouped ∙ get_or_at (a.front ++ a.x ∷ b.front) b.x b.back a.x j at_j in
      let once : set l i b.x ≡ (a.front ++ b.x ∷ b.front) ++ b.x ∷ b.back =
      ap (λ (v : List X). set v i b.x) whole
      ∙ (set_at a.front a.x (b.front ++ b.x ∷ b.back) b.x i a.long ∙ sym (append_assoc a.front (b.x ∷ b.front) (b.x ∷ b.back))) in
      let twice : set (set l i b.x) j a.x ≡ a.front ++ b.x ∷ (b.front ++ a.x ∷ b.back) =
      ap (λ (v : List X). set v j a.x) once
      ∙ (set_at (a.front ++ b.x ∷ b.front) b.x b.back a.x j at_j_too ∙ append_assoc a.front (b.x ∷ b.front) (a.x ∷ b.back)) in
      let swapped : swap l i j ≡ a.front ++ b.x ∷ (b.front ++ a.x ∷ b.back) =
      sym (swap_is l i j a.x (omega (arith, less, within)) within) ∙ ((λ k. set (set l i (other k)) j (one k)) ∙ twice) in
      subst P (sym swapped) (far a.front a.x b.front b.x b.back (subst P whole h))

  any_two : (l : List X) (i j : ℕ) → i < length l → j < length l → P l → P (swap l i j)
  any_two l i j a b h = by_order (ltb i j) refl
    where
      by_other : (v : Bool) → ltb j i ≡ v → ltb i j ≡ false → P (swap l i j)
      by_other true e f =
          let less = ltb-true j i e in
          let d = (at l i a).x in
          let same : swap l j i ≡ swap l i j = sym (swap_is l j i d b a) ∙ (set_comm l j i _ _ (λ k. absurd (omega (arith, k, less))) ∙ swap_is l i j d a b) in
          subst P same (apart l j i less a h)
      by_other false e f =
          let d = (at l j b).x in
          let same : i ≡ j = omega (arith, ltb-false i j f, ltb-false j i e) in
          let still : swap l j j ≡ l = sym (swap_is l j j d b b) ∙ (ap (λ (v : List X). set v j (get_or l j d)) (set-get_or l j d) ∙ set-get_or l j d) in
          subst P (sym (ap (λ (k : ℕ). swap l k j) same ∙ still)) h

      by_order : (v : Bool) → ltb i j ≡ v → P (swap l i j)
      by_order true e = apart l i j (ltb-true i j e) b h
      by_order false e = by_other (ltb j i) refl e

  -- what stays when two neighbours are exchanged stays in each order
  pub in_each_order : (xs ys : List X) → IsPermutation xs ys → P xs → P ys
  in_each_order xs ys moved h = IsPermutation-keeps xs P h any_two ys moved

-- ---- what is made of such lists

-- the first two of a list
pub exchanged_first : {X : Type 0} (x y : X) (l : List X) → IsPermutation (x ∷ y ∷ l) (y ∷ x ∷ l)
exchanged_first x y l = IsPermutation-append_left l (x ∷ y ∷ []) (y ∷ x ∷ []) (IsPermutation-append_comm (x ∷ []) (y ∷ []))

flat_moves : {X Y : Type 0} (f : X → List Y) (xs ys : List X) → Exchanged xs ys → IsPermutation (flat_map f xs) (flat_map f ys)
flat_moves f xs ys e =
    let whole : (a b : _) → flat_map f (e.front ++ a ∷ b ∷ e.back) ≡ flat_map f e.front ++ ((f a ++ f b) ++ flat_map f e.back) = λ a b.
    flat_map-append f e.front (a ∷ b ∷ e.back) ∙ ap (λ (l : List _). flat_map f e.front ++ l) (sym (append_assoc (f a) (f b) (flat_map f e.back))) in
    subst (IsPermutation (flat_map f xs)) (sym (ap (flat_map f) e.after ∙ whole e.y e.x))
    (subst (λ (l : List _). IsPermutation l (flat_map f e.front ++ ((f e.y ++ f e.x) ++ flat_map f e.back))) (sym (ap (flat_map f) e.before ∙ whole e.x e.y))
    (IsPermutation-append_right (flat_map f e.front) _ _ (IsPermutation-append_left (flat_map f e.back) _ _ (IsPermutation-append_comm (f e.x) (f e.y)))))

-- what each part of a list makes is in another order where the list is
pub flat_in_order : {X Y : Type 0} (f : X → List Y) (xs ys : List X) → IsPermutation xs ys → IsPermutation (flat_map f xs) (flat_map f ys)
flat_in_order f xs ys moved =
    in_each_order (λ l. IsPermutation (flat_map f xs) (flat_map f l))
    (λ l m e h. IsPermutation-trans (flat_map f xs) (flat_map f l) (flat_map f m) h (flat_moves f l m e)) xs ys moved (IsPermutation-refl (flat_map f xs))

filter_moves : {X : Type 0} (p : X → Bool) (xs ys : List X) → Exchanged xs ys → IsPermutation (filter p xs) (filter p ys)
filter_moves p xs ys e =
    subst (IsPermutation (filter p xs)) (sym (ap (filter p) e.after ∙ filter-append p e.front (e.y ∷ e.x ∷ e.back)))
    (subst (λ (l : List _). IsPermutation l (filter p e.front ++ filter p (e.y ∷ e.x ∷ e.back)))
    (sym (ap (filter p) e.before ∙ filter-append p e.front (e.x ∷ e.y ∷ e.back)))
    (IsPermutation-append_right (filter p e.front) _ _ (two_moved (p e.x) (p e.y) e.x e.y (filter p e.back))))
  where
    two_moved : {X : Type 0} (a b : Bool) (x y : X) (l : List X) →
        IsPermutation (cond a (x ∷ cond b (y ∷ l) l) (cond b (y ∷ l) l)) (cond b (y ∷ cond a (x ∷ l) l) (cond a (x ∷ l) l))
    two_moved true true x y l = exchanged_first x y l
    two_moved true false x y l = IsPermutation-refl (x ∷ l)
    two_moved false true x y l = IsPermutation-refl (y ∷ l)
    two_moved false false x y l = IsPermutation-refl l

-- what passes a test is in another order where the list is
pub filter_in_order : {X : Type 0} (p : X → Bool) (xs ys : List X) → IsPermutation xs ys → IsPermutation (filter p xs) (filter p ys)
filter_in_order p xs ys moved =
    in_each_order (λ l. IsPermutation (filter p xs) (filter p l))
    (λ l m e h. IsPermutation-trans (filter p xs) (filter p l) (filter p m) h (filter_moves p l m e)) xs ys moved (IsPermutation-refl (filter p xs))

-- what holds of each element holds of each in another order
pub all_in_order : {X : Type 0} (P : X → Type 0) (xs ys : List X) → IsPermutation xs ys → AllByRecursion P xs → AllByRecursion P ys
all_in_order P xs ys moved h = in_each_order (AllByRecursion P) exchanged xs ys moved h
  where
    middle : (front : List _) (x y : _) (back : List _) → AllByRecursion P (front ++ x ∷ y ∷ back) → AllByRecursion P (front ++ y ∷ x ∷ back)
    middle [] x y back k = (k.1.0, (k.0, k.1.1))
    middle (z ∷ front) x y back k = (k.0, middle front x y back k.1)

    exchanged : (l m : List _) → Exchanged l m → AllByRecursion P l → AllByRecursion P m
    exchanged l m e k = subst (AllByRecursion P) (sym e.after) (middle e.front e.x e.y e.back (subst (AllByRecursion P) e.before k))
