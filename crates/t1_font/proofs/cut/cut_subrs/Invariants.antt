use Rattle.std.{proofs.Common.{◌≡◌, ◌++◌, cond, map, nat_cmp}, specs.BTreeSet.{contains}}
use Rattle.t1_font.specs.{Cut.{stub}, Maps.{map_values}, Lent.{lent_number}}
use Rattle.std.specs.FinMap as fin
use Rattle.t1_font.proofs.cut.cut_subrs.Given as goal

abbrev pub invariant-bodies : goal.invariant-bodies
invariant-bodies l = map lent_number l.cut.items ++ map (λ e. (e.0, cond (contains nat_cmp l.fn.kept e.0) e.1 stub)) l.index-iterator
    ≡ fin.entries (map_values (λ i c. cond (contains nat_cmp l.fn.kept i) c stub) l.fn.subrs)
