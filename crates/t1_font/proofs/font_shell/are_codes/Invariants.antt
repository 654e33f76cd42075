use Rattle.std.specs.FinMap as fin
use Rattle.t1_font.{specs.IsFont.{IsCode}, proofs.EachEntry.{AsLeft}}
use Rattle.t1_font.proofs.font_shell.are_codes.Given as goal

abbrev pub invariant-codes : goal.invariant-codes
invariant-codes l = AsLeft (λ e. IsCode e.0 e.1) (fin.entries l.codes) l.code-iterator
