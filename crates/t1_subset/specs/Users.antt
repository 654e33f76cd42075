-- Which glyph executes each Subr of a font, in code.
use Rattle.std.specs.{Prelude.{ℕ, List, Option, None, get_or}, Borrow.{Bor}, Option.{option_map}}

-- the name that is noted for the index
abbrev pub user_at : List (Option (Bor (List ℕ))) → ℕ → Option (List ℕ)
user_at users i = option_map (λ n. n.now) (get_or users i None)
