use Rattle.std.proofs.Common.{◌≡◌, ◌+◌, ◌<◌, ℕ, slice_index_or}
use Rattle.std.specs.declared.cmp.Ordering.TheVariants.{Less}
use Rattle.t1_font.proofs.repeats.rises.Given as goal

abbrev pub invariant-entries : goal.invariant-entries
invariant-entries g l = (k : ℕ) (d : _) → k + 1 < l.at → g.O.KeyOrder.by l.order (slice_index_or l.entries k d).0 (slice_index_or l.entries (k + 1) d).0 ≡ Less
