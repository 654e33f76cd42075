-- What code holds of a table that it has read so far.
use Rattle.std.specs.{Prelude.{◌≡◌, ℕ, ◌≤◌, Bool, List, [], ◌∷◌, Option, Some, None, Result, Ok, Err}, List.{list_any}, Str.{bytes_eq}}
use Rattle.t1_grammar.specs.Tables.{Table}
use Rattle.t1_font.specs.{declared.fault.TableError.{TableError}, FontValue.{SparseArray, CharStrings, notdef, count_limit}}
use Rattle.t1_text.specs.{Entries.{map_of}, Entry.{Entry, plain_entries}, Subrs.{Subr}, Glyphs.{Glyph}, declared.dialect.Spacing.{Spacing}}
use Rattle.t1_font.specs.Faults.{TableFails}

-- the words of the first entry, where there is one
abbrev pub first_words : {K : Type 0} → List (Entry K) → Option (List ℕ × List ℕ)
first_words [] = None
first_words (e ∷ es) = Some (e.body.rd, e.body.phrase)

-- the Subrs of these entries, unless more are declared than a font may have
abbrev pub HoldsSubrs : ℕ → ℕ → SparseArray → List Subr → Type 0
HoldsSubrs declared len_iv bodies es = declared ≤ count_limit → bodies ≡ map_of (plain_entries len_iv es)

-- the glyphs of these entries
abbrev pub HoldsGlyphs : ℕ → CharStrings → List Glyph → Type 0
HoldsGlyphs len_iv bodies es = bodies ≡ map_of (plain_entries len_iv es)

-- one of these entries is `.notdef`
abbrev pub names_notdef : List Glyph → Bool
names_notdef es = list_any (λ e. bytes_eq notdef e.key) es

-- what was returned holds a table that is read, with its close and what stands after it; or it isn't read
abbrev pub TableHeld : {X A B : Type 0} → Spacing → (X → List A → B → List ℕ → Type 0) → Result X TableError → Table A B → Type 0
TableHeld {A = A} {B = B} d Holds (Ok x) read = (es : List A) × (close : B) × (rest : List ℕ) × (read ≡ Ok (es, close, rest)) × Holds x es close rest
TableHeld d Holds (Err e) read = TableFails d e read
