use Rattle.std.proofs.Common.{[], ◌∷◌, ◌++◌, ◌∙◌, ap, sym, subst, List, true≢false}
use Rattle.t1_subset.specs.{declared.conflict.Conflict.{Conflict as Refusal}, declared.conflict.Conflict.TheVariants.{Limit}, Refusals.{TellEach}}
use Rattle.t1_subset.proofs.{Telling.{tells_none, tells_limit}, state_tables.Sides.{some_are_all, agreeing_have_none, limits_are_all}}
use Rattle.t1_subset.proofs.differences.all_conflicts.Goals as goal

pub returns-then-not-is_none : goal.returns-then-not-is_none
returns-then-not-is_none c =
    let own = c.args.own.now in let other = c.args.other.now in
    some_are_all own.references other.references own.states other.states c.requires.own c.requires.other c.in_ok-all.all.items
    (λ e. true≢false (sym (c.is_none.ensures.1 (c.as_slice.ensures.value ∙ e)) ∙ c.if-not-is_none.true)) c.in_ok-all.ensures

pub returns-then-agrees : goal.returns-then-agrees
returns-then-agrees c =
    let own = c.args.own.now in let other = c.args.other.now in
    let none = agreeing_have_none own.references other.references own.states other.states c.requires.own c.requires.other
    (c.agrees.ensures.0 c.if-agrees.true) in
    let empty = sym c.as_slice.ensures.value ∙ c.is_none.ensures.0 c.if-not-is_none.false in
    subst (TellEach c.in_ok-all.all.items) (sym none) (subst (λ (es : List Refusal). TellEach es []) (sym empty) tt)

pub returns : goal.returns
returns c =
    let own = c.args.own.now in let other = c.args.other.now in
    let empty = sym c.as_slice.ensures.value ∙ c.is_none.ensures.0 c.if-not-is_none.false in
    let limit = limits_are_all own.references other.references own.states other.states c.requires.own c.requires.other
    (tells_none c.in_ok-all.all.items _ empty c.in_ok-all.ensures) (λ agree. true≢false (sym (c.agrees.ensures.1 agree) ∙ c.if-agrees.false)) in
    tells_limit c.push_item.new.items.items _ (c.in_ok-push_item.ensures.added ∙ ap (λ (es : List Refusal). es ++ Limit ∷ []) empty) limit
