use Rattle.std.proofs.Common.{◌-◌}
use Rattle.t1_algebra.specs.Conflicts.{CodeDiffers, code_clashes}
use Rattle.t1_subset.proofs.{state_tables.PassingKeys.{numbers_from}, Telling.{Adding, each_told}}
use Rattle.t1_subset.proofs.differences.add_codes.Given as goal

abbrev pub invariant-codes : goal.invariant-codes
invariant-codes l = Adding l.initial.all.items l.all.items
    (each_told (code_clashes l.own.references.font.now l.other.references.font.now) CodeDiffers (numbers_from 0 256))
    (each_told (code_clashes l.own.references.font.now l.other.references.font.now) CodeDiffers (numbers_from l.code (256 - l.code)))
