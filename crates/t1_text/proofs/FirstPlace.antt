-- The first place of a marker, byte by byte.
use Rattle.std.{proofs.Common.{◌≡◌, ℕ, List, [], ◌∷◌, Option, Some, None, refl}, specs.Option.{option_and_then}}
use Rattle.t1_grammar.specs.{Grammar.{Grammar, first_at}, Places.{prepend}}

same_front : {A : Type 0} (b : ℕ) (o : Option ((List ℕ × A) × List ℕ)) → option_and_then (λ x. Some ((b ∷ x.0.0, x.0.1), x.1)) o ≡ prepend (b ∷ []) o
same_front b None = refl
same_front b (Some x) = refl

-- where a grammar can't be read at the front, it is sought behind the first byte
pub one_place : {A : Type 0} (g : Grammar A) (b : ℕ) (bs : List ℕ) → g.read (b ∷ bs) ≡ None → first_at g (b ∷ bs) ≡ prepend (b ∷ []) (first_at g bs)
unfolding first_at
one_place g b bs e = rw e (same_front b (first_at g bs))

pub prepend-prepend : {A : Type 0} (b : ℕ) (front : List ℕ) (o : Option ((List ℕ × A) × List ℕ)) → prepend (b ∷ []) (prepend front o) ≡ prepend (b ∷ front) o
prepend-prepend b front None = refl
prepend-prepend b front (Some x) = refl

pub prepend-nil : {A : Type 0} (o : Option ((List ℕ × A) × List ℕ)) → o ≡ prepend [] o
prepend-nil None = refl
prepend-nil (Some x) = refl
