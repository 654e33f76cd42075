use Rattle.std.proofs.{Common.{arith, rules}, lemmas.List.{take_all}, lemmas.List.Sums.{suffix_len-take_yes}}
use Rattle.t1_text.proofs.numbers.trimmed_len.Goals as goal

pub noughts-init : goal.noughts-init
noughts-init c = search (rules, take_all)

pub noughts-preserved : goal.noughts-preserved
noughts-preserved c = grind (arith, suffix_len-take_yes)
