-- What the refusals say.
use Rattle.std.specs.{Prelude.{◌≡◌, ℕ, List, [], ◌∷◌, ◌++◌, Option, Some}, Option.{option_map}}
use Rattle.t1_algebra.specs.Conflicts.{Conflict, ShellDiffers, CodeDiffers, GlyphDiffers, LacksComponent, SubrDiffers, OverLimit}
use Rattle.t1_subset.specs.{declared.fault.SubsetFault.{SubsetFault}, declared.fault.SubsetFault.TheVariants.{NoSuchGlyph, Memory}, declared.conflict.Conflict.{Conflict as Refusal}}
use Rattle.t1_subset.specs.Differences.{shell_part, vector_bytes}
use Rattle.t1_subset.specs.declared.conflict.Conflict.TheVariants as refusal

-- the refusal names the first name that is absent; want of memory says nothing
abbrev pub Absent : SubsetFault → Option (List ℕ) → Type 0
Absent (NoSuchGlyph n) first = first ≡ Some n.items
Absent Memory first = Unit {0}

-- the refusal tells the lowest conflict; want of memory says nothing
abbrev pub Tells : Refusal → Option Conflict → Type 0
Tells (refusal.Shell p) c = c ≡ Some (ShellDiffers (shell_part p))
Tells (refusal.Code n) c = c ≡ Some (CodeDiffers n)
Tells (refusal.Glyph n) c = c ≡ Some (GlyphDiffers n.items)
Tells (refusal.Part g p) c = c ≡ Some (LacksComponent g.items p.items)
Tells (refusal.Subr i g) c = c ≡ Some (SubrDiffers i (option_map vector_bytes g))
Tells refusal.Limit c = c ≡ Some OverLimit
Tells refusal.Memory c = Unit {0}
Tells refusal.Empty c = ⊥

-- ---- lists of refusals

-- the refusals tell these conflicts, one for one, and none of them is want of memory
abbrev pub TellEach : List Refusal → List Conflict → Type 0
TellEach [] [] = Unit {0}
TellEach [] (c ∷ cs) = ⊥
TellEach (e ∷ es) [] = ⊥
TellEach (e ∷ es) (c ∷ cs) = (Tells e (Some c) × ¬ (e ≡ refusal.Memory)) × TellEach es cs

-- the refusals with those that were added tell these conflicts besides
abbrev pub Adds : List Refusal → List Refusal → List Conflict → Type 0
Adds old new cs = (ds : List Conflict) → TellEach old ds → TellEach new (ds ++ cs)

-- one refusal was added
abbrev pub AddsOne : Refusal → List Refusal → List Refusal → Type 0
AddsOne e old new = (c : Conflict) → Tells e (Some c) → Adds old new (c ∷ [])
