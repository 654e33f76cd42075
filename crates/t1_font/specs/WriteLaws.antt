-- The laws of fonts and their canonical files, each the contract of a function in `laws`.
use Rattle.std.specs.{Prelude.{◌≡◌, ◌↔◌, ℕ, ◌+◌, ◌*◌, ◌≤◌, Bool, true, List, length, Ok}, FinMap.{get, len}}
use Rattle.t1_bytes.specs.{declared.form.Form.{Form}, declared.form.Form.TheVariants.{Pfa, Pfb}, Laws.{AreBytes}, FlatText.{starts_segment, IsFlat}, Limits.{file_limit}}
use Rattle.t1_font.specs.{FontValue.{FontValue, notdef, count_limit, weight_limit, weight}, FontModel.{subr_at}, ReadFont.{read_font}, Canon.{canon, Fits}, Cut.{restrict}, Joins.{join_parts}}
use Rattle.t1_font.specs.{Maps.{merged}, Encodings.{SameKind}, IsFont.{HasBytes, IsFont}}

-- the canonical file of a font is read as the font
abbrev pub RoundTrip : Type 0
RoundTrip = (f : FontValue) (form : Form) → IsFont f → Fits form f → read_font (canon f form) ≡ Ok f

-- fonts with one canonical file are one font
abbrev pub Fingerprint : Type 0
Fingerprint = (f g : FontValue) (form : Form) → IsFont f → IsFont g → Fits form f → Fits form g → canon f form ≡ canon g form → f ≡ g

-- what is read of a file of bytes is a font
abbrev pub ReadIsFont : Type 0
ReadIsFont = (file : List ℕ) (f : FontValue) → AreBytes file → read_font file ≡ Ok f → IsFont f

-- a font's head begins with byte 128 exactly where the flat text that it was read of does
abbrev pub HeadStarts : Type 0
HeadStarts = (file flat : List ℕ) (f : FontValue) → IsFlat file flat → read_font file ≡ Ok f → starts_segment f.shell.head ≡ starts_segment flat

-- a font is a value of bytes that its own canonical PFB spells
abbrev pub IsFontExactly : Type 0
IsFontExactly = (f : FontValue) → IsFont f ↔ (HasBytes f × (read_font (canon f Pfb) ≡ Ok f))

-- the canonical file of a value of bytes is bytes
abbrev pub CanonIsBytes : Type 0
CanonIsBytes = (f : FontValue) (form : Form) → HasBytes f → AreBytes (canon f form)

-- the canonical file of a font is within the file limit
abbrev pub CanonIsShort : Type 0
CanonIsShort = (f : FontValue) (form : Form) → IsFont f → length (canon f form) ≤ file_limit

-- a PFB is hardly longer than the font weighs, and a PFA hardly longer than three times that
abbrev pub CanonLength : Form → ℕ → ℕ
CanonLength Pfa weight = 3 * weight + 37546
CanonLength Pfb weight = weight + 37357

-- the canonical file of a font is no longer than that
abbrev pub CanonWeighs : Type 0
CanonWeighs = (f : FontValue) (form : Form) → IsFont f → length (canon f form) ≤ CanonLength form (weight f)

-- a font cut to names with `.notdef` is a font, and weighs no more
abbrev pub RestrictIsFont : Type 0
RestrictIsFont = (names : List ℕ → Bool) (subrs : ℕ → Bool) (f : FontValue) → IsFont f → names notdef ≡ true →
    IsFont (restrict names subrs f) × (weight (restrict names subrs f) ≤ weight f)

-- the Subrs that an interpreter sees of a font are all that the font has: what is said of a font's maps is said of its calls
abbrev pub ShowsItsSubrs : Type 0
ShowsItsSubrs = (f : FontValue) → IsFont f → subr_at f ≡ get f.subrs

-- a join weighs no less than its first font
abbrev pub JoinWeighs : Type 0
JoinWeighs = (f g : FontValue) → weight f ≤ weight (join_parts f g)

-- the entries of two fonts with one shell, within the limits, are a font
abbrev pub JoinIsFont : Type 0
JoinIsFont = (f g : FontValue) → IsFont f → IsFont g → f.shell ≡ g.shell → SameKind f.encoding g.encoding →
    len (merged f.glyphs g.glyphs) ≤ count_limit → weight (join_parts f g) ≤ weight_limit → IsFont (join_parts f g)
