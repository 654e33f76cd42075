-- Loops that read a table: what is held so far, and what is left.
use Rattle.std.proofs.Common.{◌≡◌, ℕ, List, [], ◌∷◌, ◌++◌, Some, None, Ok, Err}
use Rattle.t1_grammar.specs.{Grammar.{Grammar}, Tables.{with_front, table_at}, TableLaws.{Eats, turns, closes, breaks}}

-- entries that are held, before those that are left
pub record SoFar {A B : Type 0} (entry : Grammar A) (close : Grammar B) (bytes rest : List ℕ) (Holds : List A → Type 0) : Type 0 where
  pub es : List A
  pub held : Holds es
  pub read : with_front es (table_at entry close rest) ≡ table_at entry close bytes

module _ {A B : Type 0} (entry : Grammar A) (close : Grammar B) (eats : Eats entry)
    (bytes rest : List ℕ) (Holds : List A → Type 0) (s : SoFar entry close bytes rest Holds) where
  -- one more entry
  pub one_more : (Next : List A → Type 0) (x : A × List ℕ) → close.read rest ≡ None → entry.read rest ≡ Some x → (Holds s.es → Next (s.es ++ x.0 ∷ [])) →
      SoFar entry close bytes x.1 Next
  one_more Next x c e h = record { es = s.es ++ x.0 ∷ []; held = h s.held; read = turns entry close eats s.es rest x _ c e s.read }

  pub at_close : (x : B × List ℕ) → close.read rest ≡ Some x → table_at entry close bytes ≡ Ok (s.es, x.0, x.1)
  at_close x c = closes entry close eats s.es rest x _ c s.read

  pub at_break : close.read rest ≡ None → entry.read rest ≡ None → table_at entry close bytes ≡ Err rest
  at_break c e = breaks entry close eats s.es rest _ c e s.read
