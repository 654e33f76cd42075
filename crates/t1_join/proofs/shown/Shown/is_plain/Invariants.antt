use Rattle.std.{proofs.Common.{◌≡◌, drop}, specs.List.{list_all}}
use Rattle.t1_join.specs.Shown.{is_plain}
use Rattle.t1_join.proofs.shown.Shown.is_plain.Given as goal

abbrev pub invariant-bytes : goal.invariant-bytes
invariant-bytes l = list_all is_plain (drop l.byte-index l.self.0.now) ≡ list_all is_plain l.self.0.now
