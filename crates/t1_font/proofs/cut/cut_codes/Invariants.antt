use Rattle.std.{proofs.Common.{◌≡◌, ◌++◌, [], map, unwrap_or}, specs.Prelude.{filter}}
use Rattle.t1_font.specs.Lent.{lent_number}
use Rattle.std.specs.FinMap as fin
use Rattle.t1_font.proofs.cut.cut_codes.Given as goal

abbrev pub invariant-codes : goal.invariant-codes
invariant-codes l = map lent_number l.cut.items ++ filter (λ e. fin.contains_key l.fn.glyphs e.1) l.code-iterator
    ≡ fin.entries (fin.retain_keys l.fn.codes (λ c. fin.contains_key l.fn.glyphs (unwrap_or (fin.get l.fn.codes c) [])))
