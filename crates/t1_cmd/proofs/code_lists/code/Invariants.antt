use Rattle.std.proofs.Common.{◌≡◌, ◌<◌, ◌^◌, drop}
use Rattle.t1_join.specs.ListingText.{number_after}
use Rattle.t1_cmd.proofs.code_lists.code.Given as goal

abbrev pub invariant-digits : goal.invariant-digits
invariant-digits l = (number_after l.code (drop l.digit-index l.word) ≡ number_after 0 l.word) × (l.code < 10 ^ l.digit-index)
