use Rattle.std.proofs.{Common.{◌≡◌, true, false, ap, sym, subst, ◌∙◌, refl, List, ℕ, Option, Some, None, is_some, Bor}, lemmas.Map.Iter.{rest_more, rest_all}}
use Rattle.std.specs.{Option.{option_map}, FinMap.{contains_key}}
use Rattle.t1_font.{specs.Lent.{lent_number}, proofs.normal_fonts.Filled.{EachLeft, all_left, one_known, one_unknown, all_known}}
use Rattle.t1_font.proofs.filling.has_all.Goals as goal

pub others-init : goal.others-init
others-init c = all_left c.args.table.now c.args.others.now _ (c.into_iter-number-iterator.ensures.into_iter_gives ∙ c.entries-number-items.ensures)

-- what is lent is there where it is
lent_there : (o : Option (Bor (List ℕ))) → is_some (option_map (λ b. b.now) o) ≡ is_some o
lent_there None = refl
lent_there (Some b) = refl

pub others-preserved : goal.others-preserved
others-preserved c =
    let m = c.args.table.now in
    let there : contains_key m c.in-Some.number ≡ true = sym (ap is_some c.get_likely.ensures) ∙ (lent_there c.get_likely.result ∙ c.if-is_none.ensures) in
    let more = rest_more lent_number _ _ _ _ c.in-Some.is c.next.ensures.steps in
    one_known m c.args.others.now (c.in-Some.number, c.in-Some.field-0-1.now) c.next.new.self there
    (subst (EachLeft m c.args.others.now) more c.others.invariant)

pub returns-then-is_none : goal.returns-then-is_none
returns-then-is_none c =
    let m = c.args.table.now in
    let none : contains_key m c.in-Some.number ≡ false = sym (ap is_some c.get_likely.ensures) ∙ (lent_there c.get_likely.result ∙ c.if-is_none.ensures) in
    let more = rest_more lent_number _ _ _ _ c.in-Some.is c.next.ensures.steps in
    one_unknown m c.args.others.now (c.in-Some.number, c.in-Some.field-0-1.now) c.next.new.self none
    (subst (EachLeft m c.args.others.now) more c.others.invariant)

pub returns : goal.returns
returns c =
    all_known c.args.table.now c.args.others.now c.others.number-iterator (rest_all lent_number _ _ _ c.in-None.is c.next.ensures.steps) c.others.invariant
