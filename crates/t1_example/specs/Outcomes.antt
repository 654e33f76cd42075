-- What a caller's work comes to, whatever the file and the names are.
use Rattle.std.specs.{Prelude.{◌≡◌, ◌⊎◌, ℕ, List, Result, Ok, Err, Option, Some, None, MatchResult}, Global.{Vec}, Option.{option_or}}
use Rattle.t1_bytes.specs.declared.form.Form.{Form}
use Rattle.t1_font.specs.{declared.fault.ReadFault.{ReadFault}, Canon.{canon}, FontValue.{FontValue}, ReadFont.{read_font}}
use Rattle.t1_algebra.specs.{Conflicts.{Conflict, conflict}, Keep.{subset}, Profile.{profile}, States.{Join, joined_font}}
use Rattle.t1_subset.specs.{declared.fault.SubsetFault.TheVariants.{NoSuchGlyph}, Refusals.{Tells}}
use Rattle.t1_example.specs.{declared.refusal.Refusal.{Refusal}, declared.refusal.Refusal.TheVariants.{Read, Subset, Merge}, Refusals.{IsMemory, first_lacking}}
use Rattle.std.specs.FinSet as sets

-- there is no file, for this reason or since a growth was refused
abbrev pub NoFile : (Refusal → Type 0) → Result (Vec ℕ) Refusal → Type 0
NoFile Reason r = MatchResult r (λ _. ⊥) (λ e. IsMemory e ⊎ Reason e)

-- the font lacks this name
abbrev pub IsLack : List ℕ → Refusal → Type 0
IsLack n (Subset (NoSuchGlyph name)) = name.items ≡ n
IsLack n e = ⊥

-- the fonts have this lowest conflict
abbrev pub IsClash : Option Conflict → Refusal → Type 0
IsClash c (Merge e) = Tells e c
IsClash c e = ⊥

-- the file of the join of two fonts, or their lowest conflict, or a growth was refused
abbrev pub MergeTo : FontValue → FontValue → Form → Result (Vec ℕ) Refusal → Type 0
MergeTo g h form r =
    MatchResult r (λ v. Join profile g h × (v.items ≡ canon (joined_font profile g h) form)) (λ e. IsMemory e ⊎ IsClash (conflict profile g h) e)

-- what the fonts of two files come to: a file that spells none is refused, the first before the second
abbrev pub FilesMergeTo : Result FontValue ReadFault → Result FontValue ReadFault → Form → Result (Vec ℕ) Refusal → Type 0
FilesMergeTo (Err fault) other form = NoFile (λ e. e ≡ Read fault)
FilesMergeTo (Ok g) (Err fault) form = NoFile (λ e. e ≡ Read fault)
FilesMergeTo (Ok g) (Ok h) form = MergeTo g h form

-- the file of the subset over these names
abbrev pub file_of : FontValue → List (List ℕ) → Form → List ℕ
file_of f ns form = canon (subset profile f (sets.from_list ns)) form

-- what a font comes to: a name that it lacks is refused, those of the first list before those of the second; else it is cut to both
abbrev pub CutsMergeTo : Option (List ℕ) → FontValue → List (List ℕ) → List (List ℕ) → Form → Result (Vec ℕ) Refusal → Type 0
CutsMergeTo (Some n) f a b form = NoFile (IsLack n)
CutsMergeTo None f a b form = FilesMergeTo (read_font (file_of f a form)) (read_font (file_of f b form)) form

-- what a file comes to that spells this font, or no font
abbrev pub FileComesTo : Result FontValue ReadFault → List (List ℕ) → List (List ℕ) → Form → Result (Vec ℕ) Refusal → Type 0
FileComesTo (Err fault) a b form = NoFile (λ e. e ≡ Read fault)
FileComesTo (Ok f) a b form = CutsMergeTo (option_or (first_lacking f a) (first_lacking f b)) f a b form
