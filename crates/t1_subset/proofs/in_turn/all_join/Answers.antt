use Rattle.std.{proofs.{Common.{◌≡◌, List, map, Option, Some, subst, refl, sym, ◌∙◌, ap, take_all}, lemmas.Option.{slice_get-get_or}}, specs.Option.{IfSome, MatchOption}}
use Rattle.t1_join.specs.Groupings.{IsJoinOf}
use Rattle.t1_algebra.specs.StateTables.{StatesValue, FontStatesJoin}
use Rattle.t1_subset.proofs.state_tables.StateTrees.{joined_come, refused_next}
use Rattle.t1_subset.proofs.in_turn.all_join.Goals as goal

-- what holds of the value that there is
if_some : {A : Type 0} (P : A → Type 0) (o : Option A) (a : A) → o ≡ Some a → IfSome o P → P a
if_some P o a e h = subst (λ x. IfSome x P) e h

match_some : {A : Type 0} (N : Type 0) (P : A → Type 0) (o : Option A) (a : A) → o ≡ Some a → MatchOption o N P → P a
match_some N P o a e h = subst (λ x. MatchOption x N P) e h

pub returns-in-Some-get-clause-err : goal.returns-in-Some-get-clause-err
returns-in-Some-get-clause-err c =
    let ss = c.args.states.now in
    let n = c.in-Some.count in
    let next = c.in-Some-get.next.now in
    let there = c.in-Some-get.ensures.lookup.3 in
    let apart = if_some _ _ _ c.in-Some.is c.in_ok-joined.ensures.apart next
    (slice_get-get_or ss n next there.0 ∙ ap (λ (s : StatesValue). Some s) (sym (there.1 next))) in
    refused_next c.args.references.now c.requires.noted ss c.requires.states n c.in-Some.joined
    (match_some _ _ _ _ c.in-Some.is c.in_ok-joined.ensures.joined) next there.0 (there.1 next)
    c.conflict_of.result (λ f g h k. c.conflict_of.ensures f g h k apart)

pub returns-clause-ok : goal.returns-clause-ok
returns-clause-ok c =
    let ss = c.args.states.now in
    joined_come c.args.references.now c.requires.noted ss c.requires.states (Some c.in-Some.joined) c.in-Some.joined refl
    (subst (λ (l : List StatesValue). IsJoinOf FontStatesJoin (map (λ s. s) l) (Some c.in-Some.joined)) (take_all c.in-Some.count ss
    c.in-None.ensures.lookup.3) (match_some _ _ _ _ c.in-Some.is c.in_ok-joined.ensures.joined))
