use Rattle.std.proofs.Common.{drop}
use Rattle.t1_font.proofs.normal_fonts.Filled.{IndicesSoFar}
use Rattle.t1_font.proofs.filling.stubs_of_all.Given as goal

abbrev pub invariant-fonts : goal.invariant-fonts
invariant-fonts l = IndicesSoFar l.all (drop l.font-index l.fonts) l.fonts
