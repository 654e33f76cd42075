use Rattle.std.proofs.Common.{◌≡◌, ◌<◌, ◌≤◌, ◌^◌, length}
use Rattle.t1_text.specs.Words.{decimal}
use Rattle.t1_text.proofs.WordLemmas.{decimal_after}
use Rattle.t1_text.proofs.words.decimal_at.Given as goal

abbrev pub invariant-digits : goal.invariant-digits
invariant-digits l = record {
  number : decimal_after l.count l.value l.rest ≡ decimal.read l.fn.bytes;
  few : l.count ≤ 9;
  below : l.value < 10 ^ l.count;
}

abbrev pub decreases-digits : goal.decreases-digits
decreases-digits l = length l.rest
