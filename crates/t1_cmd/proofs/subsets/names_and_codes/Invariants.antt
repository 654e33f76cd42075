use Rattle.std.proofs.Common.{◌≡◌, drop}
use Rattle.t1_subset.specs.NameSets.{lent}
use Rattle.t1_cmd.specs.Subsets.{names_with}
use Rattle.t1_cmd.proofs.subsets.names_and_codes.Given as goal

abbrev pub invariant-codes : goal.invariant-codes
invariant-codes l = names_with l.font.encoding (lent l.all.items) (drop l.code-index l.codes) ≡ names_with l.font.encoding (lent l.names) l.codes
