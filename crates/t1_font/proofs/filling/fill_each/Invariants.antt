use Rattle.std.specs.Vec.Iter.{into_iter_items}
use Rattle.t1_font.proofs.normal_fonts.Filled.{Filling}
use Rattle.t1_font.proofs.filling.fill_each.Given as goal

abbrev pub invariant-fonts : goal.invariant-fonts
invariant-fonts l = Filling (into_iter_items l.initial.font-iterator) l.all.items (into_iter_items l.font-iterator)
