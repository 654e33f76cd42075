use Rattle.std.proofs.Common.{◌≡◌, drop}
use Rattle.t1_classes.{specs.{Joining.{fonts_of_files}, Views.{lent}}, proofs.FontTexts.{fonts_before}}
use Rattle.t1_classes.proofs.joining.sources_of.Given as goal

abbrev pub invariant-files : goal.invariant-files
invariant-files l = fonts_before l.sources.items (fonts_of_files (lent (drop l.file-index l.files))) ≡ fonts_of_files (lent l.files)
