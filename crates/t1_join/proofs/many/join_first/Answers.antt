use Rattle.std.proofs.{Common.{◌++◌, ◌∙◌, subst, [], map, take, Some, ℕ, arith}, lemmas.List.{take-append-drop}}
use Rattle.t1_join.{specs.Groupings.{IsJoinOf}, proofs.FrontLemmas.{joined_itself, both_taken}}
use Rattle.t1_join.proofs.many.join_first.Goals as goal

pub join-requires : goal.join-requires
join-requires g c = g.met.J.Join.laws.only_where _ _ _ (g.met.J.Join.laws.idempotent (g.J.Join.meaning c.index-first-0.result))

pub returns-clause-joined : goal.returns-clause-joined
returns-clause-joined g c =
    let f = g.J.Join.meaning in
    let xs = c.split_at.result.0.now in
    let ys = c.split_at.result.1.now in
    let n = c.in_ok-joined.count in
    let one = c.split_at.ensures.front_len in
    let first = joined_itself g.met.J.Join.laws f xs c.index-first-0.result _ (f c.in_ok-join.field-0) one c.index-first-0.is c.in_ok-join.ensures in
    subst (λ (k : ℕ). IsJoinOf g.J.Join.Joins (map f (take k c.args.list.now)) (Some (f c.in_ok-joined.joined))) (omega (arith, one))
    (subst (λ l. IsJoinOf g.J.Join.Joins l (Some (f c.in_ok-joined.joined)))
    (both_taken g.met.J.Join.laws f c.args.list.now xs ys
    ((λ i. c.split_at.ensures.front i ++ c.split_at.ensures.back i) ∙ take-append-drop 1 c.args.list.now) [] n)
    (c.in_ok-joined.ensures.joined (map f xs) first))
