use Rattle.std.proofs.Common.{◌≡◌, ◌++◌, map, filter, drop}
use Rattle.t1_font.specs.{Sources.{kept_name}, CodeNames.{codes_named}}
use Rattle.t1_text.specs.Entries.{has_name}
use Rattle.t1_font.proofs.code_names.CodeNames.kept.Given as goal

abbrev pub invariant-codes : goal.invariant-codes
invariant-codes l = map kept_name l.kept.items ++ filter has_name (codes_named l.code (drop l.code l.self-inside.names) (drop l.code l.self-inside.named))
    ≡ filter has_name (codes_named 0 l.self-inside.names l.self-inside.named)
