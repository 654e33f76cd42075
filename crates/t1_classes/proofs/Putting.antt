-- A file is put among sorted ones.
use Rattle.std.proofs.Common.{◌≡◌, ◌<◌, ◌+◌, ℕ, List, ◌∷◌, ◌++◌, length, get_or, take, drop, sym, ap, ◌∙◌}
use Rattle.std.proofs.lemmas.List.{drop_more, map-append, take-append-drop}
use Rattle.std.specs.{Borrow.{Bor}, Ordering.{nat_cmp}, Cmp.Lexicographic.{slice_cmp}, declared.cmp.Ordering.{Ordering}, declared.cmp.Ordering.TheVariants.{Equal}}
use Rattle.t1_classes.specs.{Partition.{File, put, put_by}, Views.{lent}}

-- a file that is there stays once
pub put_there : (f : File) (xs : List (Bor (List ℕ))) (i : ℕ) (g : Bor (List ℕ)) → i < length xs → g ≡ get_or xs i g → slice_cmp nat_cmp f g.now ≡ Equal →
    put f (lent xs) ≡ lent (take i xs) ++ put f (lent (drop i xs)) → lent xs ≡ put f (lent xs)
put_there f xs i g lt is e so_far =
    let there : drop i xs ≡ g ∷ drop (i + 1) xs = drop_more xs i g lt ∙ ap (λ (h : Bor (List ℕ)). h ∷ drop (i + 1) xs) (sym is) in
    let whole : lent xs ≡ lent (take i xs) ++ lent (drop i xs) =
    ap lent (sym (take-append-drop i xs)) ∙ map-append (λ (h : Bor (List ℕ)). h.now) (take i xs) (drop i xs) in
    let here : put f (lent (drop i xs)) ≡ lent (drop i xs) =
    ap (λ (l : List (Bor (List ℕ))). put f (lent l)) there
    ∙ (ap (λ (o : Ordering). put_by o f g.now (lent (drop (i + 1) xs)) (put f (lent (drop (i + 1) xs)))) e
    ∙ ap lent (sym there)) in
    whole ∙ (ap (λ (l : List File). lent (take i xs) ++ l) (sym here) ∙ sym so_far)
