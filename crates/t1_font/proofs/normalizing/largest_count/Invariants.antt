use Rattle.std.{proofs.Common.{◌≡◌, drop}, specs.Prelude.{max}}
use Rattle.t1_font.specs.Normalizing.{largest_count}
use Rattle.t1_font.proofs.normalizing.largest_count.Given as goal

abbrev pub invariant-sources : goal.invariant-sources
invariant-sources l = max l.largest (largest_count (drop l.source-index l.sources)) ≡ largest_count l.sources
