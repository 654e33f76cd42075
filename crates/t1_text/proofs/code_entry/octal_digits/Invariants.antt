use Rattle.std.proofs.Common.{◌≡◌, ◌<◌, ◌^◌, drop}
use Rattle.t1_text.specs.Encoding.{all_octal, octal_after}
use Rattle.t1_text.proofs.code_entry.octal_digits.Given as goal

abbrev pub invariant-loop-b : goal.invariant-loop-b
invariant-loop-b l = record {
  octal : all_octal (drop l.b-index l.digits) ≡ all_octal l.digits;
  number : octal_after l.value (drop l.b-index l.digits) ≡ octal_after 0 l.digits;
  below : l.value < 8 ^ l.b-index;
}
