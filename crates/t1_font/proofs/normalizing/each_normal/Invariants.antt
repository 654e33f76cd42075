use Rattle.std.{proofs.Common.{◌≡◌, ◌++◌, map}, specs.Vec.Iter.{into_iter_items}}
use Rattle.t1_font.specs.Normalizing.{normal}
use Rattle.t1_font.proofs.normalizing.each_normal.Given as goal

abbrev pub invariant-sources : goal.invariant-sources
invariant-sources l =
    l.all.items ++ map (normal l.declared) (into_iter_items l.source-iterator) ≡ map (normal l.declared) (into_iter_items l.initial.source-iterator)
