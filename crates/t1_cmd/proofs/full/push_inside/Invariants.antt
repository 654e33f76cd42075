use Rattle.std.proofs.Common.{◌≡◌, ◌++◌, drop}
use Rattle.t1_cmd.specs.FullText.{closes_name, value_text}
use Rattle.t1_cmd.proofs.full.push_inside.Given as goal

abbrev pub invariant-bytes : goal.invariant-bytes
invariant-bytes l = l.out.items ++ value_text closes_name (drop l.byte-index l.text) ≡ l.initial.out.items ++ value_text closes_name l.text
