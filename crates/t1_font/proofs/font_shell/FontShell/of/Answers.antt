use Rattle.std.proofs.Common.{sym}
use Rattle.t1_font.proofs.font_shell.FontShell.of.Goals as goal

pub invariant_of-result : goal.invariant_of-result
invariant_of-result c = (c.args.font.now, c.proof_is_font.ensures, sym c.texts.ensures, sym c.encoding_word.ensures)
