-- What fonts rejoin to: each is filled with stubs where it lacks a Subr that another has, and they merge.
use Rattle.std.specs.{Prelude.{◌≡◌, ◌⊎◌, List, Option, Some, None}, Option.{option_map, unwrap_or}}
use Rattle.t1_font.specs.{FontValue.{FontValue}, Normalizing.{filled_all}, Filling.{AreLight, AnyHeavy}}
use Rattle.t1_algebra.specs.{Conflicts.{Conflict as FontConflict, ShellDiffers, OverLimit, shells_conflict}, Lacks.{Lack, first_lack}, Merges.{ComesTo}}
use Rattle.t1_subset.specs.{declared.conflict.Conflict.{Conflict}, declared.conflict.Conflict.TheVariants.{Memory}, declared.fault.RejoinFault.{RejoinFault}}
use Rattle.t1_subset.specs.{declared.fault.RejoinFault.TheVariants.{Lacks, Merge}, Refusals.{Tells}, Merger.{NotMerged}}

-- why fonts of which one is too heavy once it has its stubs don't merge: their shells differ, or else one is over the limit
abbrev pub heavy_conflict : List FontValue → FontConflict
heavy_conflict fonts = unwrap_or (option_map ShellDiffers (shells_conflict fonts)) OverLimit

-- Fonts rejoin to j: no glyph executes a Subr that its font lacks and another has, and filled they are within the weight limit and merge to j.
pub record Rejoin (fonts : List FontValue) (j : FontValue) : Type 0 where
  pub lacks : first_lack fonts ≡ None
  pub light : AreLight (filled_all fonts)
  pub comes : ComesTo (filled_all fonts) j

-- a lack is told, or a growth was refused
abbrev pub TellsLack : RejoinFault → Option Lack → Type 0
TellsLack (Lacks glyph index) lack = lack ≡ Some (index, glyph.items)
TellsLack (Merge e) lack = e ≡ Memory

-- why fonts that are filled don't merge, and that is told; what is over a limit is told behind conflicts of shells
abbrev pub NotMergedFilled : List FontValue → Conflict → Type 0
NotMergedFilled fonts e = (AreLight (filled_all fonts) × NotMerged (filled_all fonts) e) ⊎ (AnyHeavy (filled_all fonts) × Tells e (Some (heavy_conflict fonts)))

-- why fonts don't rejoin: one of them lacks a Subr, or else they don't merge; or a growth was refused
abbrev pub NotRejoined : List FontValue → RejoinFault → Type 0
NotRejoined fonts (Lacks glyph index) = first_lack fonts ≡ Some (index, glyph.items)
NotRejoined fonts (Merge e) = (e ≡ Memory) ⊎ ((first_lack fonts ≡ None) × NotMergedFilled fonts e)
