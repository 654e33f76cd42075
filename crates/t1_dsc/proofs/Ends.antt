-- How texts end.
use Rattle.std.proofs.Common.{◌≡◌, ℕ, List, [], ◌∷◌, ◌++◌, refl}
use Rattle.t1_document.specs.Lines.{is_line_end}
use Rattle.t1_dsc.specs.Joining.{is_ended}

-- a text ends as its last byte does
pub end_behind : (front : List ℕ) (b : ℕ) → is_ended (front ++ b ∷ []) ≡ is_line_end b
end_behind [] b = refl
end_behind (x ∷ []) b = refl
end_behind (x ∷ y ∷ front) b = end_behind (y ∷ front) b
