use Rattle.t1_font.proofs.normal_fonts.Filled.{EachLeft}
use Rattle.t1_font.proofs.filling.has_all.Given as goal

abbrev pub invariant-others : goal.invariant-others
invariant-others l = EachLeft l.table l.fn.others l.number-iterator
