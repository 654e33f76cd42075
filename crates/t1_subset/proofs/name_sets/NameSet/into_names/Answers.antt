use Rattle.std.{proofs.{Common.{◌≡◌, ◌∙◌, sym, subst}, lemmas.Map.Iter.{rest_all}}, specs.List.Sorted.{IsStrictlySortedBy}}
use Rattle.t1_subset.proofs.closing.NameSets.{sorted_names, by_bytes, all_taken}
use Rattle.t1_subset.proofs.name_sets.NameSet.into_names.Goals as goal

all_there : (c : goal.After-drop-name-iterator-2) → c.names.names.items ≡ c.self.inside.names.keys
all_there c = all_taken c.names.names.items c.names.name-iterator _ (rest_all (λ x. x) _ _ _ c.in-None.is c.next.ensures.steps) c.names.invariant
    ∙ c.into_iter-name-iterator.ensures.into_iter_gives.0

pub returns-clause-upwards : goal.returns-clause-upwards
returns-clause-upwards c =
    sorted_names c.names.names.items (subst (IsStrictlySortedBy by_bytes) (sym (all_there c)) c.into_iter-name-iterator.ensures.into_iter_gives.4)
