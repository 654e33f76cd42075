use Rattle.t1_document.{specs.Rewriting.{standing, level_fates}, proofs.Rewritten.{marks_stay, fated_written}}
use Rattle.t1_document.proofs.laws.others_stay.Goals as goal

pub returns : goal.returns
returns c = record { marks = marks_stay; bytes = λ new d. fated_written (level_fates (standing new d.places) d.places) d.last }
