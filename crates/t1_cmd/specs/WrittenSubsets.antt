-- What fonts merge to where their files, or the inputs of an engine, are the written subsets of one font.
use Rattle.std.specs.{Prelude.{◌≡◌, ℕ, List, [], ◌∷◌, ◌⊎◌, Option, Some, Result, Ok, Err}, Io.KnownBytes.{Appends}}
use Rattle.t1_bytes.specs.declared.form.Form.{Form}
use Rattle.t1_font.specs.{FontValue.{FontValue}, IsFont.{IsFont}, Canon.{canon, Fits}}
use Rattle.t1_algebra.specs.{Interpreter.{Names}, Profile.{profile}, Keep.{subset, IsOf}, Groupings.{union_all}}
use Rattle.t1_cmd.specs.{declared.counting.Counted.{Counted}, declared.faults.Reason.TheVariants.{Memory}, declared.faults.RunFault.{RunFault}}
use Rattle.t1_cmd.specs.{declared.faults.RunFault.TheVariants.{Refused, Read, Write}, Count.{inner_of, failed_of}, Inputs.{Input, RoseByOne, HasFailed}, Runs.{AppendsPrefix}}

-- ---- files

-- the file is the subset of f over these names, written in some form in which it can be read
abbrev pub IsSubsetFile : FontValue → Names → List ℕ → Type 0
IsSubsetFile f a file = IsOf f a × ((form : Form) × Fits form f × (file ≡ canon (subset profile f a) form))

-- the files are the written subsets of f over these sets of names, one for one
abbrev pub AreSubsetFiles : FontValue → List Names → List (List ℕ) → Type 0
AreSubsetFiles f [] [] = Unit {0}
AreSubsetFiles f [] (file ∷ files) = ⊥
AreSubsetFiles f (a ∷ more) [] = ⊥
AreSubsetFiles f (a ∷ more) (file ∷ files) = IsSubsetFile f a file × AreSubsetFiles f more files

-- Of the written subsets of one font, one or more, this holds of the canonical file of the subset over all the names.
abbrev pub OfUnion : Form → List (List ℕ) → (List ℕ → Type 0) → Type 0
OfUnion form files P = (f : FontValue) → IsFont f → (a : Names) (more : List Names) → AreSubsetFiles f (a ∷ more) files →
    P (canon (subset profile f (union_all (a ∷ more))) form)

-- ---- inputs

-- the input's bytes are the subset of f over these names, written in some form in which it can be read
abbrev pub IsSubset : FontValue → Names → Input → Type 0
IsSubset f a i = IsOf f a × ((form : Form) × Fits form f × (i.known ≡ Some (canon (subset profile f a) form)))

-- the inputs are the written subsets of f over these sets of names, one for one
abbrev pub AreSubsets : FontValue → List Names → List Input → Type 0
AreSubsets f [] [] = Unit {0}
AreSubsets f [] (i ∷ is) = ⊥
AreSubsets f (a ∷ more) [] = ⊥
AreSubsets f (a ∷ more) (i ∷ is) = IsSubset f a i × AreSubsets f more is

-- calls of some reader failed
abbrev pub SomeFailed : List Input → Type 0
SomeFailed [] = ⊥
SomeFailed (i ∷ is) = HasFailed i ⊎ SomeFailed is

-- An engine writes this text: all of it; or a prefix, where the writer failed; or nothing, where a reader failed or a
-- growth was refused. It refuses for no other reason.
abbrev pub Writes : {W : Type 0} → (W → Option (List ℕ)) → List ℕ → List Input → Counted W → Counted W → Result (Unit {0}) RunFault → Type 0
Writes contents text inputs w v (Ok u) = Appends (contents (inner_of w)) (contents (inner_of v)) text
Writes contents text inputs w v (Err (Refused r)) = (r ≡ Memory) × (v ≡ w)
Writes contents text inputs w v (Err Read) = SomeFailed inputs × (v ≡ w)
Writes contents text inputs w v (Err Write) = RoseByOne (failed_of w) (failed_of v) × AppendsPrefix (contents (inner_of w)) (contents (inner_of v)) text

-- Of the written subsets of one font, one or more, the canonical file of the subset over all the names is written.
abbrev pub WritesUnion : {W : Type 0} → (W → Option (List ℕ)) → Form → List Input → Counted W → Counted W → Result (Unit {0}) RunFault → Type 0
WritesUnion contents form inputs w v result = (f : FontValue) → IsFont f → (a : Names) (more : List Names) → AreSubsets f (a ∷ more) inputs →
    Writes contents (canon (subset profile f (union_all (a ∷ more))) form) inputs w v result
