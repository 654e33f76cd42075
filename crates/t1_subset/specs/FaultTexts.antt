-- The printed texts of the refusals.
use Rattle.std.specs.{Prelude.{ℕ, Option, Some, None, List, [], ◌++◌, codes}, Fmt.{decimal}, Global.{Vec}}
use Rattle.t1_join.specs.Shown.{shown}
use Rattle.t1_subset.specs.{declared.conflict.ShellPart.{ShellPart}, declared.conflict.Conflict.{Conflict}, declared.fault.SubsetFault.{SubsetFault}, declared.fault.RejoinFault.{RejoinFault}}
use Rattle.t1_subset.specs.{declared.budgets.BudgetFault.{BudgetFault}, declared.budgets.BudgetFault.TheVariants.{TooManyTokens, Plain}}
use Rattle.t1_subset.specs.declared.conflict.ShellPart.TheVariants as part
use Rattle.t1_subset.specs.declared.conflict.Conflict.TheVariants as conflict
use Rattle.t1_subset.specs.declared.fault.SubsetFault.TheVariants as fault
use Rattle.t1_subset.specs.declared.fault.RejoinFault.TheVariants as rejoin

-- what is printed of a part of a shell
abbrev pub part_text : ShellPart → List ℕ
part_text part.Head = codes "head"
part_text part.Encoding = codes "encoding"
part_text part.ClearTail = codes "clear tail"
part_text part.Private = codes "private"
part_text part.SubrsTable = codes "Subrs table"
part_text part.SubrsWords = codes "Subrs words"
part_text part.Middle = codes "middle"
part_text part.GlyphsWords = codes "CharStrings words"
part_text part.Tail = codes "tail"

-- what is printed of the glyph that uses a Subr, if there is one
abbrev pub user_text : Option (Vec ℕ) → List ℕ
user_text None = []
user_text (Some name) = codes ", used by " ++ shown name.items

-- what is printed of a conflict
abbrev pub conflict_text : Conflict → List ℕ
conflict_text (conflict.Shell part) = codes "shells differ in " ++ part_text part
conflict_text (conflict.Code code) = codes "code " ++ (decimal code ++ codes " differs")
conflict_text (conflict.Glyph name) = codes "glyph " ++ (shown name.items ++ codes " differs")
conflict_text (conflict.Part glyph part) = codes "glyph " ++ (shown glyph.items ++ (codes " lacks part " ++ shown part.items))
conflict_text (conflict.Subr index user) = codes "subr " ++ (decimal index ++ (codes " differs" ++ user_text user))
conflict_text conflict.Limit = codes "over a limit"
conflict_text conflict.Memory = codes "out of memory"
conflict_text conflict.Empty = codes "nothing to merge"

-- what is printed when a closure or a subset is refused
abbrev pub subset_text : SubsetFault → List ℕ
subset_text (fault.NoSuchGlyph name) = codes "no glyph " ++ shown name.items
subset_text fault.Memory = codes "out of memory"

-- what is printed when fonts don't rejoin
abbrev pub rejoin_text : RejoinFault → List ℕ
rejoin_text (rejoin.Lacks glyph index) = codes "glyph " ++ (shown glyph.items ++ (codes " lacks subr " ++ decimal index))
rejoin_text (rejoin.Merge e) = conflict_text e

-- what is printed of a fault within a budget, by what is printed of one without
abbrev pub text_within : {E : Type 0} → (E → Option (List ℕ)) → BudgetFault E → Option (List ℕ)
text_within text TooManyTokens = Some (codes "too many tokens")
text_within text (Plain e) = text e
