use Rattle.std.proofs.{Common.{sym, ◌∙◌, length, arith}, lemmas.Bool.{le-leb}}
use Rattle.t1_join.proofs.Hexadecimals.{digits_spell}
use Rattle.t1_join.proofs.hexadecimal.spells_bytes.Goals as goal

pub returns : goal.returns
returns c = c.are_digits.ensures ∙ sym (digits_spell c.args.text.now (le-leb (length c.args.text.now) 131070 (omega arith)) (omega arith))
