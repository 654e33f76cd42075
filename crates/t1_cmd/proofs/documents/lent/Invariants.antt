use Rattle.std.proofs.Common.{◌≡◌, map, take}
use Rattle.t1_cmd.proofs.documents.lent.Given as goal

abbrev pub invariant-texts : goal.invariant-texts
invariant-texts l = map (λ t. t.now) l.lent.items ≡ map (λ t. t.items) (take l.text-index l.texts)
