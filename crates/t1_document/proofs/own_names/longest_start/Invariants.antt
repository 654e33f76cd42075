use Rattle.std.proofs.Common.{◌≡◌, drop}
use Rattle.t1_subset.specs.NameSets.{lent}
use Rattle.t1_document.specs.Pooling.{longest}
use Rattle.t1_document.proofs.own_names.longest_start.Given as goal

abbrev pub invariant-texts : goal.invariant-texts
invariant-texts l = longest l.longest.items (lent (drop l.text-index l.texts)) ≡ longest l.fn.start.items (lent l.texts)
