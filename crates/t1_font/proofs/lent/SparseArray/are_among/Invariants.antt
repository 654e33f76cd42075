use Rattle.std.{proofs.Common.{map}, specs.{FinMap.{from_sorted}, Ordering.{nat_cmp}}}
use Rattle.t1_font.{specs.Lent.{stub_at}, proofs.normal_fonts.Filled.{EachLeft}}
use Rattle.t1_font.proofs.lent.SparseArray.are_among.Given as goal

abbrev pub invariant-entries : goal.invariant-entries
invariant-entries l = EachLeft (from_sorted {R = nat_cmp} (map stub_at l.numbers)) l.self l.number-iterator
