use Rattle.std.proofs.Common.{◌≡◌, ◌++◌, map}
use Rattle.t1_font.specs.{Joins.{joined_subr}, Maps.{map_values}, Lent.{lent_number}}
use Rattle.std.specs.FinMap as fin
use Rattle.t1_font.proofs.parts.join_subrs.Given as goal

abbrev pub invariant-bodies : goal.invariant-bodies
invariant-bodies l = map lent_number l.joined.items ++ map (λ e. (e.0, joined_subr e.1 (fin.get l.fn.second e.0))) l.index-iterator
    ≡ fin.entries (map_values (λ i c. joined_subr c (fin.get l.fn.second i)) l.fn.first)
