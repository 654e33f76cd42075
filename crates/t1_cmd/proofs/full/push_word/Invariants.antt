use Rattle.std.proofs.Common.{◌≡◌, ◌++◌, drop}
use Rattle.t1_join.specs.ListingMeaning.{ends_name}
use Rattle.t1_cmd.specs.FullText.{value_text}
use Rattle.t1_cmd.proofs.full.push_word.Given as goal

abbrev pub invariant-bytes : goal.invariant-bytes
invariant-bytes l = l.out.items ++ value_text ends_name (drop l.byte-index l.text) ≡ l.initial.out.items ++ value_text ends_name l.text
