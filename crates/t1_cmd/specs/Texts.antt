-- The lines that tell of a fault.
use Rattle.std.specs.{Prelude.{ℕ, List, [], ◌∷◌, ◌++◌, codes}, Fmt.{decimal}}
use Rattle.t1_font.specs.FaultTexts.{fault_text}
use Rattle.t1_join.specs.{Shown.{shown}, FaultTexts.{list_text, join_text}}
use Rattle.t1_jobs.specs.Jobs.{no_document_text}
use Rattle.t1_subset.specs.FaultTexts.{conflict_text}
use Rattle.t1_cmd.specs.{declared.faults.Reason.{Reason}}
use Rattle.t1_cmd.specs.declared.faults.Reason.TheVariants.{TooLong, Memory, List as ListReason, Join as JoinReason, Font, NoGlyph, NoCode}
use Rattle.t1_cmd.specs.declared.faults.Reason.TheVariants.{NoFont, Document as DocumentReason, TooManyTokens, Lacks, Merge}
use Rattle.t1_cmd.specs.{declared.faults.RunFault.{RunFault}, declared.faults.RunFault.TheVariants.{Refused, Read, Write}}

-- what is printed of a reason
abbrev pub reason_text : Reason → List ℕ
reason_text TooLong = codes "file too long"
reason_text Memory = codes "out of memory"
reason_text (ListReason f) = list_text f
reason_text (JoinReason f) = join_text f
reason_text (Font f) = fault_text f
reason_text (NoGlyph name) = codes "no glyph " ++ shown name
reason_text (NoCode code) = codes "no code " ++ decimal code
reason_text (NoFont name) = codes "no font " ++ shown name
reason_text (DocumentReason why) = no_document_text why
reason_text TooManyTokens = codes "too many tokens"
reason_text (Lacks glyph index) = codes "glyph " ++ (shown glyph ++ (codes " lacks subr " ++ decimal index))
reason_text (Merge e) = conflict_text e

-- what is printed of a run that did not finish
abbrev pub run_fault_text : RunFault → List ℕ
run_fault_text (Refused r) = codes "refused: " ++ reason_text r
run_fault_text Read = codes "failed: read"
run_fault_text Write = codes "failed: write"

-- the line that tells of a fault
abbrev pub fault_line : RunFault → List ℕ
fault_line fault = run_fault_text fault ++ 10 ∷ []

-- the same behind the path of a file
abbrev pub fault_line_of : List ℕ → RunFault → List ℕ
fault_line_of path fault = path ++ codes ": " ++ fault_line fault
