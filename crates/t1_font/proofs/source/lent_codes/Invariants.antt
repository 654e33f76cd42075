use Rattle.std.proofs.Common.{◌≡◌, map, take}
use Rattle.t1_font.specs.{Lent.{lent_number}, Sources.{kept_name}}
use Rattle.t1_font.proofs.source.lent_codes.Given as goal

abbrev pub invariant-codes : goal.invariant-codes
invariant-codes l = map lent_number l.lent.items ≡ map kept_name (take l.code-index l.codes)
