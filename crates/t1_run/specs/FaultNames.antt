-- The names of the faults of runs and of drawings, and why runs within a budget stop, as they are printed.
use Rattle.std.specs.Prelude.{ℕ, List, codes}
use Rattle.t1_run.specs.{declared.answer.Fault.{Fault}, declared.answer.DrawFault.{DrawFault}, declared.answer.DrawFault.TheVariants.{Run, NoPart, MissingPart, NestedSeac, PartFault, NoGlyph}}
use Rattle.t1_run.specs.declared.budget.Stop.{Stop}
use Rattle.t1_run.specs.declared.answer.Fault.TheVariants as run
use Rattle.t1_run.specs.declared.budget.Stop.TheVariants as stop

-- the name of a run's fault
abbrev pub run_fault_name : Fault → List ℕ
run_fault_name run.Overflow = codes "Overflow"
run_fault_name run.Underflow = codes "Underflow"
run_fault_name run.Nesting = codes "Nesting"
run_fault_name run.NoSubr = codes "NoSubr"
run_fault_name run.OtherProc = codes "OtherProc"
run_fault_name run.BadFlex = codes "BadFlex"
run_fault_name run.Unended = codes "Unended"
run_fault_name run.BadToken = codes "BadToken"
run_fault_name run.NoWidth = codes "NoWidth"
run_fault_name run.ZeroDivisor = codes "ZeroDivisor"
run_fault_name run.Range = codes "Range"
run_fault_name run.NotWhole = codes "NotWhole"
run_fault_name run.TooLong = codes "TooLong"
run_fault_name run.EmptyPop = codes "EmptyPop"

-- the name of a drawing's fault
abbrev pub fault_name : DrawFault → List ℕ
fault_name (Run fault) = run_fault_name fault
fault_name NoPart = codes "NoPart"
fault_name MissingPart = codes "MissingPart"
fault_name NestedSeac = codes "NestedSeac"
fault_name PartFault = codes "PartFault"
fault_name NoGlyph = codes "NoGlyph"

-- why a run within a budget stops, as it is printed
abbrev pub stop_text : Stop → List ℕ
stop_text stop.TooManyTokens = codes "too many tokens"
stop_text stop.Memory = codes "out of memory"
