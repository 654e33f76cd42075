use Rattle.std.proofs.Common.{◌≡◌, ◌+◌, ◌≤◌, drop}
use Rattle.t1_font.specs.{FontValue.{total}, FontModel.{clamp}, Ranges.{subr_at_weight}}
use Rattle.t1_font.proofs.source.subrs_weight.Given as goal

abbrev pub invariant-subrs : goal.invariant-subrs
invariant-subrs l = record {
  fits : l.weight ≤ 18446744073709551615;
  left : clamp (l.weight + total (subr_at_weight l.len_iv) (drop l.body-index l.subrs)) ≡ clamp (l.before + total (subr_at_weight l.len_iv) l.subrs);
}
