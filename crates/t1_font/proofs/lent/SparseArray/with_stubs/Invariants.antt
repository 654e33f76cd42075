use Rattle.std.proofs.Common.{◌≡◌, ◌++◌, map}
use Rattle.t1_font.specs.{Lent.{lent_number}, MadeTables.{entry_or_stub}, Maps.{map_values}}
use Rattle.std.specs.FinMap as fin
use Rattle.t1_font.proofs.lent.SparseArray.with_stubs.Given as goal

abbrev pub invariant-present : goal.invariant-present
invariant-present l = map lent_number l.all.items ++ map (λ e. (e.0, entry_or_stub l.fn.table e.0)) l.index-iterator
    ≡ fin.entries (map_values (λ i c. entry_or_stub l.fn.table i) l.fn.numbers)
