use Rattle.std.proofs.Common.{◌≡◌, ◌++◌, map, drop}
use Rattle.t1_font.specs.{Normalizing.{below_count}, Lent.{lent_number, stub_at}}
use Rattle.t1_font.proofs.filling.made_with_stubs.Given as goal

abbrev pub invariant-indices : goal.invariant-indices
invariant-indices l =
    map lent_number l.stubs.items ++ map stub_at (below_count l.fn.declared (drop l.index-index l.fn.indices))
    ≡ map stub_at (below_count l.fn.declared l.fn.indices)
