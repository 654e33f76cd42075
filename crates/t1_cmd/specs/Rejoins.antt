-- What the engine that rejoins fonts writes: fonts that other programs cut are normalized, and merged.
use Rattle.std.specs.{Prelude.{◌≡◌, ◌⊎◌, ℕ, List, Option, Some, None, Result, Ok, Err}, List.{AllByRecursion}}
use Rattle.t1_bytes.specs.declared.form.Form.{Form}
use Rattle.t1_font.specs.{FontValue.{FontValue}, IsFont.{IsFont}, Canon.{canon}, Normalizing.{normalized_shells, normalized}, Filling.{AreLight, AnyHeavy}}
use Rattle.t1_subset.specs.{Refusals.{Tells}, Rejoins.{heavy_conflict}}
use Rattle.t1_algebra.specs.{Lacks.{Lack, first_lack}, Merges.{ComesTo}, Rejoins.{with_normal_texts}}
use Rattle.t1_cmd.specs.{declared.faults.Reason.{Reason}, declared.faults.Reason.TheVariants.{Lacks, Merge}, Mergers.{IsTold, MergesToFile}}

-- why fonts of which one is too heavy once it has its stubs don't merge is told
abbrev pub TellsHeavy : List FontValue → Result (List ℕ) Reason → Type 0
TellsHeavy fonts (Err (Merge e)) = Tells e (Some (heavy_conflict fonts)) × IsTold e
TellsHeavy fonts answer = ⊥

-- a glyph lacks a Subr that another font has, and that is told; or the fonts, normalized, are within the weight limit, and merge to this; or one of them is
-- over it, and that is told behind conflicts of their shells
abbrev pub RejoinsUnless : Option Lack → Form → List FontValue → Result (List ℕ) Reason → Type 0
RejoinsUnless (Some lack) form fonts answer = answer ≡ Err (Lacks lack.1 lack.0)
RejoinsUnless None form fonts answer =
    (AreLight (normalized fonts) × MergesToFile form (normalized fonts) answer) ⊎ (AnyHeavy (normalized fonts) × TellsHeavy (normalized_shells fonts) answer)

-- what fonts rejoin to, or why they don't
abbrev pub RejoinsTo : Form → List FontValue → Result (List ℕ) Reason → Type 0
RejoinsTo form fonts answer = RejoinsUnless (first_lack (normalized_shells fonts)) form fonts answer

-- fonts that merge rejoin to the file of what they merge to, with normalized texts, and to nothing else
abbrev pub RejoinsWhatMerges : Type 0
RejoinsWhatMerges = (form : Form) (fonts : List FontValue) (j : FontValue) → AllByRecursion IsFont fonts → ComesTo fonts j
    → RejoinsTo form fonts (Ok (canon (with_normal_texts j) form))
    × ((answer : Result (List ℕ) Reason) → RejoinsTo form fonts answer → answer ≡ Ok (canon (with_normal_texts j) form))
