-- Boxes in texts: what is read is what the text spells.
use Rattle.std.proofs.{Common.{◌≡◌, ◌-◌, List, ℕ, [], ◌++◌, length, take, true, false, Option, Some, None, refl, sym, ap, ◌∙◌, append_assoc, arith}, lemmas.List.{append-nil, length-append, take_at}}
use Rattle.std.proofs.lemmas.Option.{none-some, same_Some}
use Rattle.std.specs.Option.{option_map}
use Rattle.t1_text.specs.Boxes.{BoxNumbers, opening, box_numbers, closes_box, font_box}

-- ---- the bytes up to the numbers

four_parts : (text name t1 b1 space t2 b2 bracket t3 b3 inside t4 b4 : List ℕ) → text ≡ t1 ++ b1 → t1 ≡ name → b1 ≡ t2 ++ b2 → t2 ≡ space →
    b2 ≡ t3 ++ b3 → t3 ≡ bracket → b3 ≡ t4 ++ b4 → t4 ≡ inside → b4 ≡ [] → text ≡ name ++ space ++ bracket ++ inside
four_parts text name t1 b1 space t2 b2 bracket t3 b3 inside t4 b4 e1 n1 e2 n2 e3 n3 e4 n4 end =
    e1 ∙ ((λ i. n1 i ++ (e2 ∙ ((λ j. n2 j ++ (e3 ∙ ((λ k. n3 k ++ (e4 ∙ ((λ l. n4 l ++ end l) ∙ append-nil inside)) k))) j))) i)
    ∙ simp append_assoc)

-- the bytes that open a box are its value
pub opening_spelled : (v : List ℕ × List ℕ) (text rest : List ℕ) → opening.Spells v text rest → text ≡ v.0
unfolding opening
opening_spelled v text rest a =
    let b = a.5 in
    let c = b.5 in
    let d = c.5 in
    four_parts text a.0 a.1 a.2 b.0 b.1 b.2 c.0 c.1 c.2 d.0 d.1 d.2 a.3 a.4.0.0 b.3 b.4.0 c.3 c.4.0.0 d.3 d.4.0 d.5.0
    ∙ ap (λ (w : List ℕ × List ℕ). w.0) d.5.1

opening_is : (bytes : List ℕ) (x : (List ℕ × List ℕ) × List ℕ) → opening.read bytes ≡ Some x → bytes ≡ x.0.0 ++ x.1
opening_is bytes x e =
    let s = opening.takes bytes x e in
    s.1 ∙ ap (λ (u : List ℕ). u ++ x.1) (opening_spelled x.0 s.0 x.1 s.2)

-- what a map of an answer tells of it
of_map : {A B : Type 0} (f : A → B) (y : B) (o : Option A) → Some y ≡ option_map f o → (x : A) × (o ≡ Some x) × (y ≡ f x)
of_map f y None e = absurd (none-some y (sym e))
of_map f y (Some x) e = (x, refl, same_Some y (f x) e)

none_of_map : {A B : Type 0} (f : A → B) (o : Option A) → None ≡ option_map f o → o ≡ None
none_of_map f None e = refl
none_of_map f (Some x) e = absurd (none-some (f x) e)

-- the bytes before what stands behind them
taken : (bytes front rest : List ℕ) → bytes ≡ front ++ rest → take (length bytes - length rest) bytes ≡ front
taken bytes front rest e =
    let n : length bytes - length rest ≡ length front = omega (arith, ap length e, length-append front rest) in
    (λ i. take (n i) (e i)) ∙ take_at front rest (length front) refl

-- what the code reads of an opening
abbrev pub opened : List ℕ → Option (List ℕ × List ℕ)
opened bytes = option_map (λ x. (x.0.1, x.1)) (opening.read bytes)

-- a box is read
pub box_read : (bytes bracket inside start : List ℕ) (n : BoxNumbers) (rest : List ℕ) →
    Some (bracket, inside) ≡ opened bytes → start ≡ take (length bytes - length inside) bytes →
    Some (n, rest) ≡ box_numbers.read inside → closes_box bracket rest ≡ true → Some ((start, n), rest) ≡ font_box.read bytes
unfolding font_box
box_read bytes bracket inside start n rest o s m c =
    let x = of_map (λ x. (x.0.1, x.1)) (bracket, inside) (opening.read bytes) o in
    let within : inside ≡ x.0.1 = ap (λ (v : List ℕ × List ℕ). v.1) x.2 in
    let named : bracket ≡ x.0.0.1 = ap (λ (v : List ℕ × List ℕ). v.0) x.2 in
    let begins : bytes ≡ x.0.0.0 ++ inside = opening_is bytes x.0 x.1 ∙ ap (λ (u : List ℕ). x.0.0.0 ++ u) (sym within) in
    let starts : start ≡ x.0.0.0 = s ∙ taken bytes x.0.0.0 inside begins in
    let four : box_numbers.read x.0.1 ≡ Some (n, rest) = ap box_numbers.read (sym within) ∙ sym m in
    let closed : closes_box x.0.0.1 rest ≡ true = ap (λ (u : List ℕ). closes_box u rest) (sym named) ∙ c in
    rw (x.1, four, closed, starts) refl

-- no box is read where none opens
pub not_opened : (bytes : List ℕ) → None ≡ opened bytes → None ≡ font_box.read bytes
unfolding font_box
not_opened bytes o = rw (none_of_map (λ x. (x.0.1, x.1)) (opening.read bytes) o) refl

-- nor where no four numbers follow
pub not_four : (bytes bracket inside : List ℕ) → Some (bracket, inside) ≡ opened bytes → None ≡ box_numbers.read inside → None ≡ font_box.read bytes
unfolding font_box
not_four bytes bracket inside o m =
    let x = of_map (λ x. (x.0.1, x.1)) (bracket, inside) (opening.read bytes) o in
    let four : box_numbers.read x.0.1 ≡ None = ap box_numbers.read (sym (ap (λ (v : List ℕ × List ℕ). v.1) x.2)) ∙ sym m in
    rw (x.1, four) refl

-- nor where nothing closes it
pub not_closed : (bytes bracket inside : List ℕ) (n : BoxNumbers) (rest : List ℕ) → Some (bracket, inside) ≡ opened bytes →
    Some (n, rest) ≡ box_numbers.read inside → closes_box bracket rest ≡ false → None ≡ font_box.read bytes
unfolding font_box
not_closed bytes bracket inside n rest o m c =
    let x = of_map (λ x. (x.0.1, x.1)) (bracket, inside) (opening.read bytes) o in
    let four : box_numbers.read x.0.1 ≡ Some (n, rest) = ap box_numbers.read (sym (ap (λ (v : List ℕ × List ℕ). v.1) x.2)) ∙ sym m in
    let open_yet : closes_box x.0.0.1 rest ≡ false = ap (λ (u : List ℕ). closes_box u rest) (sym (ap (λ (v : List ℕ × List ℕ). v.0) x.2)) ∙ c in
    rw (x.1, four, open_yet) refl
