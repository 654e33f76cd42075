-- A loop that reads the names of a literal array: what is held so far, and what is left.
use Rattle.std.proofs.{Common.{◌≡◌, ℕ, zero, suc, ◌+◌, ◌-◌, ◌<◌, ◌≤◌, List, [], ◌∷◌, ◌++◌, length, Some, None, Ok, Err, sym, ap, subst, ◌∙◌, arith}, lemmas.List.{length-append}}
use Rattle.std.specs.{FinMap.{insert}, Ordering.{nat_cmp}}
use Rattle.t1_grammar.specs.{Tables.{with_front, counted_at}, CountedLaws.{counted_turn, counted_stops, counted_closes, counted_unclosed}}
use Rattle.t1_font.specs.FontValue.{SparseArray}
use Rattle.t1_text.specs.{declared.dialect.Spacing.{Spacing}, Words.{next_name}, Encoding.{code_count, array_end, from_code}, Entries.{map_of}}
use Rattle.t1_font.proofs.HeldLemmas.{one_code_more}

-- the names of the codes below this one are held, before those that are left
pub record NamesSoFar (d : Spacing) (bytes rest : List ℕ) (codes : SparseArray) (code : ℕ) : Type 0 where
  pub names : List (List ℕ)
  pub count : length names ≡ code
  pub held : codes ≡ map_of (from_code 0 names)
  pub read : with_front names (counted_at (next_name d) (array_end d) (code_count - code) rest) ≡ counted_at (next_name d) (array_end d) code_count bytes

from_code-push : (c : ℕ) (names : List (List ℕ)) (n : List ℕ) → from_code c (names ++ n ∷ []) ≡ from_code c names ++ (c + length names, n) ∷ []
from_code-push c [] n = ap (λ (k : ℕ). (k, n) ∷ []) (omega arith)
from_code-push c (m ∷ names) n =
    ap (λ (es : List (ℕ × List ℕ)). (c, m) ∷ es) (from_code-push (suc c) names n ∙ ap (λ (k : ℕ). from_code (suc c) names ++ (k, n) ∷ []) (omega arith))

module _ (d : Spacing) (bytes rest : List ℕ) (codes : SparseArray) (code : ℕ) (s : NamesSoFar d bytes rest codes code) where
  before_one : (m : ℕ) → code_count - code ≡ m →
      with_front s.names (counted_at (next_name d) (array_end d) m rest) ≡ counted_at (next_name d) (array_end d) code_count bytes
  before_one m e =
      subst (λ (k : ℕ). with_front s.names (counted_at (next_name d) (array_end d) k rest) ≡ counted_at (next_name d) (array_end d) code_count bytes) e s.read

  -- one more name
  pub name_more : (x : List ℕ × List ℕ) (next : SparseArray) → code < code_count → (next_name d).read rest ≡ Some x → next ≡ insert codes code x.0 →
      NamesSoFar d bytes x.1 next (code + 1)
  name_more x next below e put =
      let placed : from_code 0 (s.names ++ x.0 ∷ []) ≡ from_code 0 s.names ++ (code, x.0) ∷ [] =
      from_code-push 0 s.names x.0 ∙ ap (λ (k : ℕ). from_code 0 s.names ++ (k, x.0) ∷ []) (omega (arith, s.count)) in
      record {
        names = s.names ++ x.0 ∷ [];
        count = omega (arith, s.count, length-append s.names (x.0 ∷ []));
        held = one_code_more (from_code 0 s.names) (code, x.0) codes next put s.held ∙ ap (λ (es : List (ℕ × List ℕ)). map_of {R = nat_cmp} es) (sym placed);
        read = subst (λ (k : ℕ). with_front (s.names ++ x.0 ∷ []) (counted_at (next_name d) (array_end d) k x.1)
            ≡ counted_at (next_name d) (array_end d) code_count bytes) (omega (arith, below))
            (counted_turn (next_name d) (array_end d) (code_count - suc code) s.names rest x _ e
            (before_one (suc (code_count - suc code)) (omega (arith, below))));
      }

  -- no name where one is wanted
  pub name_missing : code < code_count → (next_name d).read rest ≡ None → counted_at (next_name d) (array_end d) code_count bytes ≡ Err rest
  name_missing below e =
      counted_stops (next_name d) (array_end d) (code_count - suc code) s.names rest _ e (before_one (suc (code_count - suc code)) (omega (arith, below)))

-- behind the last name
module _ (d : Spacing) (bytes rest : List ℕ) (codes : SparseArray) (code : ℕ) (all : code_count ≤ code) (s : NamesSoFar d bytes rest codes code) where
  none_left : with_front s.names (counted_at (next_name d) (array_end d) zero rest) ≡ counted_at (next_name d) (array_end d) code_count bytes
  none_left = before_one d bytes rest codes code s zero (omega (arith, all))

  -- where the array closes, its names are read
  pub names_closed : (x : List ℕ × List ℕ) → (array_end d).read rest ≡ Some x → counted_at (next_name d) (array_end d) code_count bytes ≡ Ok (s.names, x.0, x.1)
  names_closed x e = counted_closes (next_name d) (array_end d) s.names rest x _ e none_left

  -- where it doesn't close, reading breaks off
  pub names_unclosed : (array_end d).read rest ≡ None → counted_at (next_name d) (array_end d) code_count bytes ≡ Err rest
  names_unclosed e = counted_unclosed (next_name d) (array_end d) s.names rest _ e none_left
