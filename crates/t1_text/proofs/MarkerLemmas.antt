-- Where a font's own text ends.
use Rattle.std.proofs.Common.{◌≡◌, ℕ, List, ◌++◌, Some, ap, ◌∙◌}
use Rattle.t1_grammar.specs.Grammar.{first}
use Rattle.t1_text.specs.Markers.{closefile}

-- the text through the first `closefile`
pub close_parts : (bytes front own rest : List ℕ) → (first closefile).read bytes ≡ Some ((front, own), rest) → bytes ≡ (front ++ own) ++ rest
unfolding closefile
close_parts bytes front own rest e =
    let s = (first closefile).takes bytes ((front, own), rest) e in
    s.1 ∙ ap (λ (u : List ℕ). u ++ rest) (s.2.1 ∙ ap (λ (u : List ℕ). front ++ u) s.2.2.0.0)
