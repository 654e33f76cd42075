use Rattle.std.proofs.{Common.{◌++◌, ◌∙◌, sym, subst, refl, [], ◌∷◌, map, take_all, IfOk, Some, option_map, arith}, lemmas.List.{take-append-drop}}
use Rattle.t1_join.{specs.Groupings.{IsJoinOf}, proofs.{OrderLemmas.{only_itself}, FrontLemmas.{joined_itself, joined_more, at_back, both_taken, front_joined, front_apart}}}
use Rattle.t1_join.proofs.many.+join_on.Goals as goal

pub returns-in-Some-clause-joined : goal.returns-in-Some-clause-joined
returns-in-Some-clause-joined g t c before h =
    let f = g.J.Join.meaning in
    let xs = c.args.list.now in
    let x = c.index-list-0.result in
    let only = joined_itself g.met.J.Join.laws f xs x _ (f x) c.if-list-eq1.true c.index-list-0.is (g.met.J.Join.laws.idempotent (f x)) in
    let r = joined_more g.met.J.Join.laws f before (f c.args.joined) h xs (omega (arith, c.if-list-eq1.true)) (Some x) only x refl
    c.join_if_agreed.result c.join_if_agreed.ensures in
    subst (λ l. IsJoinOf g.J.Join.Joins (before ++ map f l) (Some (f c.in-Some.more))) (sym (take_all 1 xs (omega (arith, c.if-list-eq1.true))))
    (subst (λ o. IsJoinOf g.J.Join.Joins (before ++ map f xs) (option_map f o)) c.in-Some.is
    (subst (λ r. IfOk r (λ o. IsJoinOf g.J.Join.Joins (before ++ map f xs) (option_map f o))) c.in_ok-more.was r))

pub returns-in_ok-all-in-Some-2-clause-joined : goal.returns-in_ok-all-in-Some-2-clause-joined
returns-in_ok-all-in-Some-2-clause-joined g t c before h =
    let f = g.J.Join.meaning in
    let xs = c.split_at.result.0.now in
    let ys = c.split_at.result.1.now in
    let first : IsJoinOf g.J.Join.Joins (before ++ map f xs) (Some (f c.in-Some-2.more)) =
    subst (λ o. IsJoinOf g.J.Join.Joins (before ++ map f xs) (option_map f o)) c.in-Some-2.is (c.in_ok-more-2.ensures before h) in
    subst (λ l. IsJoinOf g.J.Join.Joins l (Some (f c.in_ok-all-in-Some-2.all)))
    (both_taken g.met.J.Join.laws f c.args.list.now xs ys
    ((λ i. c.split_at.ensures.front i ++ c.split_at.ensures.back i) ∙ take-append-drop _ c.args.list.now) before c.in_ok-all-in-Some-2.count)
    (c.in_ok-all-in-Some-2.ensures.joined (before ++ map f xs) first)

pub returns-in_ok-all-in-Some-2-clause-apart : goal.returns-in_ok-all-in-Some-2-clause-apart
returns-in_ok-all-in-Some-2-clause-apart g t c next there = c.in_ok-all-in-Some-2.ensures.apart next
    (sym (at_back g.met.J.Join.laws g.J.Join.meaning c.args.list.now c.split_at.result.0.now c.split_at.result.1.now
    ((λ i. c.split_at.ensures.front i ++ c.split_at.ensures.back i) ∙ take-append-drop _ c.args.list.now) c.in_ok-all-in-Some-2.count) ∙ there)

pub returns-in-None-2-clause-joined : goal.returns-in-None-2-clause-joined
returns-in-None-2-clause-joined g t c before h = front_joined g.met.J.Join.laws g.J.Join.meaning c.args.list.now
    c.split_at.result.0.now c.split_at.result.1.now
    ((λ i. c.split_at.ensures.front i ++ c.split_at.ensures.back i) ∙ take-append-drop _ c.args.list.now)
    before c.join_on-in-None-2.result c.join_on-in-None-2.ensures.within (c.join_on-in-None-2.ensures.joined before h)

pub returns-in-None-2-clause-apart : goal.returns-in-None-2-clause-apart
returns-in-None-2-clause-apart g t c =
    let f = g.J.Join.meaning in
    let a = f c.args.joined in
    let h = only_itself g.met.J.Join.laws a a (a ∷ []) refl (g.met.J.Join.laws.idempotent a) in
    front_apart g.met.J.Join.laws f c.args.list.now c.split_at.result.0.now c.split_at.result.1.now
    ((λ i. c.split_at.ensures.front i ++ c.split_at.ensures.back i) ∙ take-append-drop _ c.args.list.now)
    (a ∷ []) c.join_on-in-None-2.result c.join_on-in-None-2.ensures.within (c.join_on-in-None-2.ensures.joined (a ∷ []) h)
    (subst (λ o. IsJoinOf g.J.Join.Joins ((a ∷ []) ++ map f c.split_at.result.0.now) (option_map f o)) c.in-None-2.is (c.in_ok-more-2.ensures (a ∷ []) h))
    c.join_on-in-None-2.ensures.apart
