use Rattle.std.proofs.Common.{◌<◌}
use Rattle.std.specs.FinMap as fin
use Rattle.t1_font.proofs.EachEntry.{AsLeft}
use Rattle.t1_text.specs.FontWords.{IsCharstring}
use Rattle.t1_font.proofs.font_shell.are_subrs.Given as goal

abbrev pub invariant-subrs : goal.invariant-subrs
invariant-subrs l = AsLeft (λ e. (e.0 < l.declared) × IsCharstring l.len_iv e.1) (fin.entries l.subrs) l.index-iterator
