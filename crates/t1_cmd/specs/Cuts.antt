-- What fonts rejoin to where their files, or the inputs of an engine, are cuts of one font, as other programs make them.
use Rattle.std.specs.{Prelude.{◌≡◌, ℕ, true, List, [], ◌∷◌, Option, Some, Result, Ok}, List.{AllByRecursion}}
use Rattle.t1_bytes.specs.declared.form.Form.{Form}
use Rattle.t1_font.specs.{FontValue.{FontValue}, IsFont.{IsFont}, Canon.{canon}, Renewing.{Renewed}}
use Rattle.t1_text.specs.Boxes.{Box}
use Rattle.t1_algebra.specs.{Keep.{has}, Alike.{DrawsAlike}, Laws.{AnswersAlike}, Rejoins.{Truncated, IsTruncated, GetBox, rejoined, TruncatedSubsetsRejoin}}
use Rattle.t1_cmd.specs.{declared.counting.Counted.{Counted}, declared.faults.RunFault.{RunFault}, Inputs.{Input}, Fonts.{mended_input}, Rejoins.{RejoinsTo}, WrittenSubsets.{Writes}}

-- ---- files

-- the file is mended to this truncated subset of f, however it is spelled
abbrev pub IsCutFile : FontValue → Truncated → List ℕ → Type 0
IsCutFile f t file = IsTruncated f t × (mended_input file ≡ Ok t.font)

-- the files are mended to these truncated subsets of f, one for one
abbrev pub AreCutFiles : FontValue → List Truncated → List (List ℕ) → Type 0
AreCutFiles f [] [] = Unit {0}
AreCutFiles f [] (file ∷ files) = ⊥
AreCutFiles f (t ∷ ts) [] = ⊥
AreCutFiles f (t ∷ ts) (file ∷ files) = IsCutFile f t file × AreCutFiles f ts files

-- Of the files of truncated subsets of one font, one or more, which have the font's box or can get one, this holds of the canonical file of what they
-- rejoin to: the subset over all the names, with normalized texts and that box, and cut to the largest of their counts.
abbrev pub OfRejoined : Form → List (List ℕ) → (List ℕ → Type 0) → Type 0
OfRejoined form files P = (f : FontValue) → IsFont f → (t : Truncated) (ts : List Truncated) → AreCutFiles f (t ∷ ts) files →
    (o : Option Box) → GetBox f (t ∷ ts) o → P (canon (rejoined f (t ∷ ts) o) form)

-- ---- inputs

-- the input's bytes are mended to this truncated subset of f
abbrev pub InputIsCut : FontValue → Truncated → Input → Type 0
InputIsCut f t i = (file : List ℕ) × IsCutFile f t file × (i.known ≡ Some file)

-- the inputs are mended to these truncated subsets of f, one for one
abbrev pub InputsAreCuts : FontValue → List Truncated → List Input → Type 0
InputsAreCuts f [] [] = Unit {0}
InputsAreCuts f [] (i ∷ is) = ⊥
InputsAreCuts f (t ∷ ts) [] = ⊥
InputsAreCuts f (t ∷ ts) (i ∷ is) = InputIsCut f t i × InputsAreCuts f ts is

-- Of truncated subsets of one font, one or more, which have the font's box or can get one, the canonical file of what they rejoin to is written.
abbrev pub WritesRejoined : {W : Type 0} → (W → Option (List ℕ)) → Form → List Input → Counted W → Counted W → Result (Unit {0}) RunFault → Type 0
WritesRejoined contents form inputs w v result = (f : FontValue) → IsFont f → (t : Truncated) (ts : List Truncated) → InputsAreCuts f (t ∷ ts) inputs →
    (o : Option Box) → GetBox f (t ∷ ts) o → Writes contents (canon (rejoined f (t ∷ ts) o) form) inputs w v result

-- ---- laws, each the contract of a function in `laws`

-- each glyph of each of the fonts runs and draws in j as it did, its faults included, over the maps of both and as calls see them
abbrev pub AllDrawIn : List FontValue → FontValue → Type 0
AllDrawIn fonts j = AllByRecursion (λ f. (n : List ℕ) → has f n ≡ true → DrawsAlike f j n × AnswersAlike f j n) fonts

-- Bytes are the canonical file of a font in which each glyph of each of the fonts draws as it did, and whose kept texts are those of each, renewed.
pub record IsRejoined (form : Form) (fonts : List FontValue) (bytes : List ℕ) : Type 0 where
  pub font : FontValue
  pub is_font : IsFont font
  pub file : bytes ≡ canon font form
  pub draws : AllDrawIn fonts font
  pub texts : AllByRecursion (λ f. Renewed f.shell font.shell) fonts

-- What fonts rejoin to is so. That no font lacks a Subr which its glyphs execute and another has is what this needs: fonts that do are refused. And truncated
-- subsets of one font rejoin, to the subset over all the names.
pub record Rejoined : Type 0 where
  pub any : (form : Form) (fonts : List FontValue) (bytes : List ℕ) → AllByRecursion IsFont fonts → RejoinsTo form fonts (Ok bytes) →
      IsRejoined form fonts bytes
  pub cuts : TruncatedSubsetsRejoin
