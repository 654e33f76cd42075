-- What a font has to be for its subsets to be joined, and what they come to.
use Rattle.std.specs.Prelude.{◌≡◌, ℕ, List, Ok}
use Rattle.t1_bytes.specs.declared.form.Form.{Form}
use Rattle.t1_font.specs.{FontValue.{FontValue}, ReadFont.{read_font}, Spelling.{Spells}, Canon.{Fits}}
use Rattle.t1_algebra.specs.{Interpreter.{Names}, Keep.{subset, IsOf}, Profile.{profile}}
use Rattle.std.specs.FinSet as sets

-- The file spells the font, which has the names of both sets, and whose files in this form can be read again.
pub record CanBeCut (file : List ℕ) (a b : Names) (form : Form) (f : FontValue) : Type 0 where
  pub spelled : Spells file f
  pub first : IsOf f a
  pub second : IsOf f b
  pub fits : Fits form f

-- the files are read as the subsets of the font over the first and the second set of names
abbrev pub AreCuts : FontValue → Names → Names → List ℕ → List ℕ → Type 0
AreCuts f a b first second = (read_font first ≡ Ok (subset profile f a)) × (read_font second ≡ Ok (subset profile f b))

-- the subset of the names of both sets
abbrev pub union_subset : FontValue → Names → Names → FontValue
union_subset f a b = subset profile f (sets.union a b)
