use Rattle.std.{proofs.Common.{◌≡◌, ◌++◌, map}, specs.Vec.Iter.{into_iter_items}}
use Rattle.t1_font.specs.FontNames.{named}
use Rattle.t1_font.proofs.font_names.all_named.Given as goal

abbrev pub invariant-sources : goal.invariant-sources
invariant-sources l =
    l.all.items ++ map (named l.name) (into_iter_items l.source-iterator)
    ≡ map (named l.name) (into_iter_items l.initial.source-iterator)
