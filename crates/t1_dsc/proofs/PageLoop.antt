-- The loop that finds the pages among lines.
use Rattle.std.proofs.{Common.{◌≡◌, ◌≤◌, ◌<◌, ◌+◌, ℕ, List, [], ◌∷◌, ◌++◌, length, drop, map, Option, sym, ap, ◌∙◌, append_assoc, arith}, lemmas.List.{append-nil, drop_more, drop_all}}
use Rattle.std.specs.Option.{option_to_list}
use Rattle.t1_dsc.specs.{Structure.{Line}, Parts.{PageLines, page_at, pages_in}}

-- pages of so many lines were found, and those of the others are left
abbrev pub Finding : {X : Type 0} → (X → Line) → List X → ℕ → List PageLines → Type 0
Finding view lines i pages = pages ++ pages_in (map view (drop i lines)) ≡ pages_in (map view lines)

-- a page more, if one begins there
pub found_more : {X : Type 0} (view : X → Line) (lines : List X) (i : ℕ) → i < length lines → (pages : List PageLines) (o : Option PageLines) →
    o ≡ page_at (map view (drop i lines)) → Finding view lines i pages → Finding view lines (i + 1) (pages ++ option_to_list o)
found_more view [] i h pages o e was = absurd (omega arith)
found_more view (d ∷ ds) i h pages o e was =
    let lines = d ∷ ds in
    append_assoc pages (option_to_list o) _
    ∙ (ap (λ (p : Option PageLines). pages ++ (option_to_list p ++ pages_in (map view (drop (i + 1) lines))))
    (e ∙ ap (λ ls. page_at (map view ls)) (drop_more lines i d h))
    ∙ (ap (λ ls. pages ++ pages_in (map view ls)) (sym (drop_more lines i d h)) ∙ was))

-- in the end all were found
pub found_all : {X : Type 0} (view : X → Line) (lines : List X) (i : ℕ) → length lines ≤ i → (pages : List PageLines) →
    Finding view lines i pages → pages ≡ pages_in (map view lines)
found_all view lines i le pages was =
    sym (append-nil pages) ∙ (ap (λ ls. pages ++ pages_in (map view ls)) (sym (drop_all i lines le)) ∙ was)
