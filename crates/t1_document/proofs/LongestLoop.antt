-- The loop over starts of names.
use Rattle.std.proofs.{Common.{◌≡◌, ◌≤◌, ◌<◌, ◌+◌, ℕ, List, Bor, length, get_or, drop, sym, ap, ◌∙◌}, lemmas.List.{drop_more, drop_all}}
use Rattle.t1_subset.specs.NameSets.{lent}
use Rattle.t1_document.specs.Pooling.{free_start, longer, longest}

module _ (texts : List (Bor (List ℕ))) where
  -- one text more
  pub longest_more : (i : ℕ) (d : Bor (List ℕ)) → i < length texts → (start more all other : List ℕ) → other ≡ free_start (get_or texts i d).now →
      more ≡ longer start other → longest start (lent (drop i texts)) ≡ all → longest more (lent (drop (i + 1) texts)) ≡ all
  longest_more i d h start more all other o e was =
      ap (λ (s : List ℕ). longest s (lent (drop (i + 1) texts))) (e ∙ ap (longer start) o)
      ∙ (ap (λ (ys : List (Bor (List ℕ))). longest start (lent ys)) (sym (drop_more texts i d h)) ∙ was)

  -- all of them
  pub longest_all : (i : ℕ) → length texts ≤ i → (start all : List ℕ) → longest start (lent (drop i texts)) ≡ all → start ≡ all
  longest_all i le start all was = ap (λ (ys : List (Bor (List ℕ))). longest start (lent ys)) (sym (drop_all i texts le)) ∙ was
