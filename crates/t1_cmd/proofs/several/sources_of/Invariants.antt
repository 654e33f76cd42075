use Rattle.t1_cmd.{specs.Fonts.{input_by}, proofs.Files.{SoFar}}
use Rattle.t1_cmd.proofs.several.sources_of.Given as goal

abbrev pub invariant-files : goal.invariant-files
invariant-files l = SoFar (input_by l.taking) l.place l.files l.sources.items
