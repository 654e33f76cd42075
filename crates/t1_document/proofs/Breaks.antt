-- Where a line ends between texts of which one has changed.
use Rattle.std.proofs.{Common.{◌≡◌, ℕ, true, false, List, [], ◌∷◌, ◌++◌, Option, Some, None, refl, sym, ap, ◌∙◌, inl, inr}, lemmas.List.{append-nil}, lemmas.Option.{none-some}}
use Rattle.std.specs.Prelude.{codes}
use Rattle.t1_grammar.specs.Grammar.{fixed, choice_some}
use Rattle.t1_document.specs.{declared.marks.Side.{Side}, declared.marks.Side.TheVariants.{Begin, End}, declared.marks.Mark.{Mark}, Lines.{breaks}, Marks.{mark_behind, mark_of}}
use Rattle.t1_document.proofs.FontLemmas.{fixed_is}

-- two texts begin with the same byte, or both are empty
abbrev pub SameStart : List ℕ → List ℕ → Type 0
SameStart [] [] = Unit {0}
SameStart [] (b ∷ bs) = ⊥
SameStart (a ∷ us) [] = ⊥
SameStart (a ∷ us) (b ∷ bs) = a ≡ b

-- a line ends before the one where it ends before the other
pub breaks-same : (x a b : List ℕ) → SameStart a b → breaks x a ≡ breaks x b
breaks-same [] a b h = refl
breaks-same (c ∷ []) [] [] h = refl
breaks-same (c ∷ []) [] (b ∷ bs) h = absurd h
breaks-same (c ∷ []) (a ∷ us) [] h = absurd h
breaks-same (c ∷ []) (a ∷ us) (b ∷ bs) h = rw h refl
breaks-same (c ∷ d ∷ x) a b h = breaks-same (d ∷ x) a b h

-- so it does before `%` and before `/`
pub breaks-slash : (x a b : List ℕ) → breaks x (37 ∷ a) ≡ breaks x (47 ∷ b)
breaks-slash [] a b = refl
breaks-slash (c ∷ []) a b = refl
breaks-slash (c ∷ d ∷ x) a b = breaks-slash (d ∷ x) a b

-- the same text before both
pub same-append : (t a b : List ℕ) → SameStart a b → SameStart (t ++ a) (t ++ b)
same-append [] a b h = h
same-append (c ∷ t) a b h = refl

-- only the last part of a text matters
pub breaks-behind : (front : List ℕ) (b : ℕ) (bs behind : List ℕ) → breaks (front ++ b ∷ bs) behind ≡ breaks (b ∷ bs) behind
breaks-behind [] b bs behind = refl
breaks-behind (c ∷ []) b bs behind = refl
breaks-behind (c ∷ d ∷ front) b bs behind = breaks-behind (d ∷ front) b bs behind

-- where a line ends behind a font text and what follows it, it ends behind another text and the same
pub ends_again : (old new rest front : List ℕ) (b : ℕ) (bs : List ℕ) → old ≡ front ++ codes "leartomark" →
    breaks (old ++ rest) (b ∷ bs) ≡ true → breaks (new ++ rest) (b ∷ bs) ≡ true
ends_again old new [] front b bs e h =
    let none : breaks (old ++ []) (b ∷ bs) ≡ false =
    ap (λ (t : List ℕ). breaks t (b ∷ bs)) (append-nil old ∙ e) ∙ breaks-behind front 108 (codes "eartomark") (b ∷ bs) in
    absurd cc
ends_again old new (r ∷ rest) front b bs e h =
    breaks-behind new r rest (b ∷ bs) ∙ (sym (breaks-behind old r rest (b ∷ bs)) ∙ h)

-- ---- marks

marked_read : (side : Side) (o : Option (List ℕ × List ℕ)) (m : Mark) → mark_behind side o ≡ Some m → (x : List ℕ × List ℕ) × (o ≡ Some x)
marked_read side None m e = absurd (none-some m e)
marked_read side (Some x) m e = (x, refl)

pub begun : (w : List ℕ) (line : List ℕ) (x : List ℕ × List ℕ) → (fixed w).read line ≡ Some x → line ≡ w ++ x.1
begun w line x e =
    let s = (fixed w).takes line x e in
    s.1 ∙ ap (λ (t : List ℕ). t ++ x.1) (fixed_is w x.0 s.0 x.1 s.2)

-- the line of a mark begins with `%`
pub mark_starts : (line : List ℕ) (m : Mark) → mark_of line ≡ Some m → (inner : List ℕ) × (line ≡ 37 ∷ inner)
unfolding mark_of
mark_starts line m e = elim (choice_some (mark_behind Begin ((fixed (codes "%%Begin")).read line)) (mark_behind End ((fixed (codes "%%End")).read line)) m e) [
  | inl h ↦ let x = marked_read Begin ((fixed (codes "%%Begin")).read line) m h in (codes "%Begin" ++ x.0.1, begun (codes "%%Begin") line x.0 x.1)
  | inr h ↦ let x = marked_read End ((fixed (codes "%%End")).read line) m h.1 in (codes "%End" ++ x.0.1, begun (codes "%%End") line x.0 x.1)
]
