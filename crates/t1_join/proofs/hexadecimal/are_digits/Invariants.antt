use Rattle.std.{proofs.Common.{◌≡◌, ◌&&◌, drop}, specs.List.{list_all}}
use Rattle.hex.specs.Hex.{is_hex_digit}
use Rattle.t1_join.proofs.hexadecimal.are_digits.Given as goal

abbrev pub invariant-digits : goal.invariant-digits
invariant-digits l = (l.all && list_all is_hex_digit (drop l.digit-index l.text)) ≡ list_all is_hex_digit l.text
