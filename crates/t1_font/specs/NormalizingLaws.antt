-- The laws of normalized fonts, each the contract of a function in `laws` of t1_font_laws.
use Rattle.std.specs.{Prelude.{◌≡◌, ℕ, ◌≤◌, true, List, [], map}, List.{AllByRecursion}, FinMap.{keys, contains_key}}
use Rattle.t1_font.specs.{FontValue.{FontValue, Shell, declared_count}, NormalTexts.{normal_texts}, Normalizing.{normal, filled, normalized}, IsFont.{IsFont}}
use Rattle.t1_text.specs.Boxes.{Box}
use Rattle.t1_font.specs.FontBoxes.{box_of, with_box, box_stays, with_texts, boxed}

-- a font of normalized texts that declares so many Subrs stays
abbrev pub NormalStays : Type 0
NormalStays = (n : ℕ) (f : FontValue) → normal_texts f.shell ≡ f.shell → n ≤ declared_count f.shell.subrs → normal n f ≡ f

-- a font that is filled over its own indices stays
abbrev pub FilledStays : Type 0
FilledStays = (f : FontValue) → filled (keys f.subrs) f ≡ f

-- texts that were normalized stay when they are normalized again
abbrev pub NormalTextsStay : Type 0
NormalTextsStay = (s : Shell) → normal_texts (normal_texts s) ≡ normal_texts s

-- fonts that are normalized stay when they are normalized again
abbrev pub NormalizedTwice : Type 0
NormalizedTwice = (fs : List FontValue) → normalized (normalized fs) ≡ normalized fs

-- a font of normalized texts, of the box and the declared count of f and with Subrs at the indices where f has them
pub record IsNormalWith (f g : FontValue) : Type 0 where
  pub texts : normal_texts g.shell ≡ g.shell
  pub box : box_of g.shell ≡ box_of f.shell
  pub count : declared_count g.shell.subrs ≡ declared_count f.shell.subrs
  pub present : (i : ℕ) → contains_key g.subrs i ≡ contains_key f.subrs i

-- fonts that agree with one of them stay when they are normalized
abbrev pub NormalFontsStay : Type 0
NormalFontsStay = (f : FontValue) (fs : List FontValue) → AllByRecursion (IsNormalWith f) fs → normalized fs ≡ fs

-- ---- one FontBBox

-- where a shell has a box when it is read again, another box takes its place as it takes the place of the shell's own
abbrev pub OneBoxForAnother : Type 0
OneBoxForAnother = (b u : Box) (s : Shell) → box_stays b s ≡ true → with_box u (with_box b s) ≡ with_box u s

-- fonts with one box keep it
abbrev pub BoxedTwice : Type 0
BoxedTwice = (fs : List FontValue) → boxed (boxed fs) ≡ boxed fs

-- a font without the two texts around its Encoding
abbrev pub without_clear : FontValue → FontValue
without_clear f = with_texts f ([], [])

-- but for these, fonts with one box are what they were
abbrev pub BoxedKeeps : Type 0
BoxedKeeps = (fs : List FontValue) → map without_clear (boxed fs) ≡ map without_clear fs

-- fonts with one box are fonts
abbrev pub BoxedAreFonts : Type 0
BoxedAreFonts = (fs : List FontValue) → AllByRecursion IsFont fs → AllByRecursion IsFont (boxed fs)

-- and their texts are normalized where they were
abbrev pub BoxedAreNormal : Type 0
BoxedAreNormal =
    (fs : List FontValue) → AllByRecursion (λ f. normal_texts f.shell ≡ f.shell) fs → AllByRecursion (λ f. normal_texts f.shell ≡ f.shell) (boxed fs)

-- fonts of one shell stay
abbrev pub OneShellStays : Type 0
OneShellStays = (s : Shell) (fs : List FontValue) → AllByRecursion (λ f. f.shell ≡ s) fs → boxed fs ≡ fs
