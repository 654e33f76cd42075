use Rattle.std.proofs.Common.{◌≡◌, ◌-◌, take}
use Rattle.t1_algebra.specs.Profile.{profile, set_of}
use Rattle.std.specs.List.{sum_by}
use Rattle.t1_run.specs.Budgets.{Spends}
use Rattle.t1_subset.{specs.{NameSets.{asked}, Budgets.{glyph_tokens}, LastRuns.{WasRun}}, proofs.{closing.Closures.{ClosureSoFar}, closing.NumberSets.{calls_to}}}
use Rattle.std.specs.FinMap as maps
use Rattle.t1_subset.proofs.needed.needed.Given as goal

abbrev pub invariant-closure : goal.invariant-closure
invariant-closure l =
    ClosureSoFar profile l.font (asked l.names) l.closure l.place
    × (set_of l.calls ≡ calls_to l.font (take l.place l.closure))
    × Spends (sum_by (glyph_tokens l.font) (take l.place l.closure)) l.initial.budget.left l.budget.left
    × WasRun l.font (set_of l.calls) l.budget.left l.last

abbrev pub decreases-closure : goal.decreases-closure
decreases-closure l = maps.len l.font.glyphs - l.place
