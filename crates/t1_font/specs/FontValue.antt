-- The value of a font, its weight and its limits.
use Rattle.std.specs.{Prelude.{ℕ, ◌+◌, ◌≤◌, max, List, [], ◌∷◌, length, map, Option, Some, None}, Ordering.{nat_cmp}}
use Rattle.std.specs.FinMap.{FinMap, entries, len}
pub use Rattle.t1_text.specs.Names.{name_cmp, notdef}

-- what stands at each index or code
abbrev pub SparseArray : Type 0
SparseArray = FinMap nat_cmp (List ℕ)

-- what stands at each name
abbrev pub CharStrings : Type 0
CharStrings = FinMap name_cmp (List ℕ)

-- the names at which something stands, upwards
abbrev pub names_in : CharStrings → List (List ℕ)
names_in m = map (λ e. e.0) (entries m)

-- What a font with Subrs keeps of their table: the declared count, the words of its first entry (empty where it has none), and the phrase that closes it.
pub record SubrsShell : Type 0 where
  pub declared : ℕ
  pub rd : List ℕ
  pub put : List ℕ
  pub closing : List ℕ

-- What two fonts have to share, beside the indices that are present: the five kept texts, lenIV, and the kept words of both tables.
pub record Shell : Type 0 where
  pub head : List ℕ
  pub clear_tail : List ℕ
  pub private : List ℕ
  pub middle : List ℕ
  pub tail : List ℕ
  pub len_iv : ℕ
  -- where Subrs are there
  pub subrs : Option SubrsShell
  pub glyphs_rd : List ℕ
  pub glyphs_def : List ℕ

-- one word, or the names of codes
pub data Encoding : Type 0 where
  Word : List ℕ → Encoding
  Codes : SparseArray → Encoding

-- a font: its shell, its Encoding, the plain charstrings of its Subrs and of its glyphs
pub record FontValue : Type 0 where
  pub shell : Shell
  pub encoding : Encoding
  pub subrs : SparseArray
  pub glyphs : CharStrings

-- ---- limits

-- Subrs declared, glyphs
abbrev pub count_limit : ℕ
count_limit = 65535

-- 2^26
abbrev pub weight_limit : ℕ
weight_limit = 67108864

-- f of each entry, added up
abbrev pub total : {K X : Type 0} → (K → X → ℕ) → List (K × X) → ℕ
total f [] = 0
total f (e ∷ es) = f e.0 e.1 + total f es

-- the bytes of the five kept texts
abbrev pub texts_weight : Shell → ℕ
texts_weight s = length s.head + length s.clear_tail + length s.private + length s.middle + length s.tail

-- a Subr weighs 128, its lead bytes and the bytes of its charstring, of which one counts where there are none
abbrev pub subr_weight : ℕ → ℕ → List ℕ → ℕ
subr_weight len_iv i body = 128 + len_iv + max 1 (length body)

-- a glyph weighs 256, its lead bytes and the bytes of its charstring
abbrev pub glyph_weight : ℕ → List ℕ → List ℕ → ℕ
glyph_weight len_iv name body = 256 + len_iv + length body

-- the weight of a shell with these Subrs and glyphs
abbrev pub weight_of : Shell → List (ℕ × List ℕ) → List (List ℕ × List ℕ) → ℕ
weight_of s subrs glyphs = texts_weight s + total (subr_weight s.len_iv) subrs + total (glyph_weight s.len_iv) glyphs

-- the weight of a font
abbrev pub weight : FontValue → ℕ
weight f = weight_of f.shell (entries f.subrs) (entries f.glyphs)

-- how many Subrs are declared, none where there is no table of them
abbrev pub declared_count : Option SubrsShell → ℕ
declared_count None = 0
declared_count (Some s) = s.declared

-- the limits of a font
pub record FitsLimits (f : FontValue) : Type 0 where
  pub declared : declared_count f.shell.subrs ≤ count_limit
  pub glyphs : len f.glyphs ≤ count_limit
  pub weight : weight f ≤ weight_limit
