-- The labels of documents.
use Rattle.std.{proofs.{Common.{◌≡◌, ◌+◌, ◌++◌, ℕ, [], ◌∷◌, arith}, lemmas.List.FromFn.{map-range_with_len_more}}, specs.Fmt.{decimal}}
use Rattle.t1_c.specs.Gives.{place_labels}

-- the labels of one document more
pub one_label_more : (count : ℕ) → place_labels (count + 1) ≡ place_labels count ++ decimal count ∷ []
one_label_more count = map-range_with_len_more decimal 0 count count (omega arith)
