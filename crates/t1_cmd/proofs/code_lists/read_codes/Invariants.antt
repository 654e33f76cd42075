use Rattle.std.proofs.Common.{◌≡◌, length}
use Rattle.t1_cmd.{specs.CodeLists.{codes_listed}, proofs.CodeLemmas.{with_codes}}
use Rattle.t1_cmd.proofs.code_lists.read_codes.Given as goal

abbrev pub invariant-words : goal.invariant-words
invariant-words l = with_codes l.codes.items (codes_listed l.rest) ≡ codes_listed l.text

abbrev pub decreases-words : goal.decreases-words
decreases-words l = length l.rest
