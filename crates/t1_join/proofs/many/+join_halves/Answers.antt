use Rattle.std.proofs.{Common.{◌++◌, ◌∙◌, arith}, lemmas.List.{take-append-drop}}
use Rattle.t1_join.proofs.FrontLemmas.{joined_itself, front_refused, back_refused, halves_joined, pair_joined}
use Rattle.t1_join.proofs.many.+join_halves.Goals as goal

pub join-requires : goal.join-requires
join-requires g t c = g.met.J.Join.laws.only_where _ _ _ (g.met.J.Join.laws.idempotent (g.J.Join.meaning c.index-list-0.result))

pub returns-then-list-eq1 : goal.returns-then-list-eq1
returns-then-list-eq1 g t c =
    joined_itself g.met.J.Join.laws g.J.Join.meaning c.args.list.now c.index-list-0.result _ _ c.if-list-eq1.true c.index-list-0.is c.in_ok-join.ensures

pub returns-then-list-eq2 : goal.returns-then-list-eq2
returns-then-list-eq2 g t c = pair_joined g.met.J.Join.laws g.J.Join.meaning c.args.list.now c.index-list-0-then-list-eq2.result
    c.index-list-1.result _ _ c.if-list-eq2.true c.index-list-0-then-list-eq2.is c.index-list-1.is c.join_if_agreed.result c.join_if_agreed.ensures

pub returns-in-None : goal.returns-in-None
returns-in-None g t c = front_refused g.met.J.Join.laws g.J.Join.meaning c.args.list.now c.split_at.result.0.now c.split_at.result.1.now
    ((λ i. c.split_at.ensures.front i ++ c.split_at.ensures.back i) ∙ take-append-drop _ c.args.list.now)
    (omega (arith, c.requires, c.if-list-eq1.false, c.split_at.ensures.front_len))
    (omega (arith, c.requires, c.if-list-eq1.false, c.split_at.ensures.back_len)) _ c.in-None.is c.in_ok-front.ensures

pub returns-in-None-2 : goal.returns-in-None-2
returns-in-None-2 g t c = back_refused g.met.J.Join.laws g.J.Join.meaning c.args.list.now c.split_at.result.0.now c.split_at.result.1.now
    ((λ i. c.split_at.ensures.front i ++ c.split_at.ensures.back i) ∙ take-append-drop _ c.args.list.now)
    (omega (arith, c.requires, c.if-list-eq1.false, c.split_at.ensures.front_len))
    (omega (arith, c.requires, c.if-list-eq1.false, c.split_at.ensures.back_len)) _ c.in-None-2.is c.in_ok-back.ensures

pub returns : goal.returns
returns g t c = halves_joined g.met.J.Join.laws g.J.Join.meaning c.args.list.now c.split_at.result.0.now c.split_at.result.1.now
    ((λ i. c.split_at.ensures.front i ++ c.split_at.ensures.back i) ∙ take-append-drop _ c.args.list.now)
    (omega (arith, c.requires, c.if-list-eq1.false, c.split_at.ensures.front_len)) (omega (arith, c.requires, c.if-list-eq1.false, c.split_at.ensures.back_len))
    _ _ _ _ c.in-Some.is c.in-Some-2.is c.in_ok-front.ensures c.in_ok-back.ensures c.join_if_agreed-2.result c.join_if_agreed-2.ensures
