-- What is read, step by step.
use Rattle.std.{proofs.Common.{◌≡◌, ℕ, Bool, true, List, ◌++◌, Option, Some, refl, ap, ◌∙◌}, specs.{List.{AllByRecursion}, Option.{option_and_then}}}
use Rattle.t1_grammar.specs.Grammar.{Grammar, ◌>>=◌, that, Stops, run}

-- a text and then the one that follows it are read as one after the other
pub bind_read : {A B : Type 0} (g : Grammar A) (f : A → Grammar B) (bytes : List ℕ) (a : A) (rest : List ℕ) (r : Option (B × List ℕ)) →
    g.read bytes ≡ Some (a, rest) → (f a).read rest ≡ r → (g >>= f).read bytes ≡ r
bind_read g f bytes a rest r e k = ap (option_and_then (λ x. (f x.0).read x.1)) e ∙ k

-- a value that is read and passes the test is read with it
pub that_read : {A : Type 0} (test : A → Bool) (g : Grammar A) (bytes : List ℕ) (a : A) (rest : List ℕ) →
    g.read bytes ≡ Some (a, rest) → test a ≡ true → (that test g).read bytes ≡ Some (a, rest)
that_read test g bytes a rest e t = rw (e, t) refl

-- bytes that pass a test, up to one that fails it, are read as their run
pub run_read : (p : ℕ → Bool) (text rest : List ℕ) → AllByRecursion (λ b. p b ≡ true) text → Stops p rest → (run p).read (text ++ rest) ≡ Some (text, rest)
run_read p text rest a s = (run p).again text text rest (refl, a, s)
