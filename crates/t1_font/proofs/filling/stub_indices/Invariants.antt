use Rattle.std.{proofs.Common.{◌≡◌, ◌++◌, map}, specs.FinMap.{keys}}
use Rattle.t1_font.specs.Normalizing.{stubs_at, indices_of_all}
use Rattle.t1_font.proofs.filling.stub_indices.Given as goal

abbrev pub invariant-stubs : goal.invariant-stubs
invariant-stubs l = l.indices.items ++ map (λ e. e.0) l.index-iterator ≡ keys (stubs_at (indices_of_all l.fonts))
