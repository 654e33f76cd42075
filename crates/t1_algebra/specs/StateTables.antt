-- The states of a font as tables, and what they weigh.
use Rattle.std.specs.{Prelude.{◌≡◌, ◌≤◌, ℕ, ◌+◌, ◌*◌, ◌-◌, List, [], ◌∷◌, map, flat_map, length, Option, Some, None, is_some}, Coded.{Coded, coded×}, Option.{option_map}}
use Rattle.t1_join.specs.{Meaning.{Meaning}, Products.{SameJoin, BothJoin, FittingAgree, FittingJoin}, TableMeaning.{TableMeaning, TablesJoin, table_code, joined_table}}
use Rattle.t1_font.specs.{FontValue.{FontValue, Encoding, Word, Codes, SparseArray, CharStrings, total, texts_weight, weight_limit, count_limit, names_in}, Maps.{map_values}, MadeTables.{numbered}}
use Rattle.t1_algebra.specs.{Interpreter.{Interpreter}, States.{named_at, subr_state}, Shared.{Shared, shared_code, shared_of}}
use Rattle.std.specs.FinMap as maps

-- what is shared, and the states of codes, of names and of Subrs, each at its key unless it is the bottom
abbrev pub StatesValue : Type 0
StatesValue = Shared × (TableMeaning × (TableMeaning × TableMeaning))

-- the states of the codes
abbrev pub code_part : StatesValue → TableMeaning
code_part s = s.1.0

-- the states of the names
abbrev pub name_part : StatesValue → TableMeaning
name_part s = s.1.1.0

-- the states of the Subrs
abbrev pub subr_part : StatesValue → TableMeaning
subr_part s = s.1.1.1

-- how the states of a font are coded
abbrev pub states_code : Coded StatesValue
states_code = coded× shared_code (coded× table_code (coded× table_code table_code))

-- ---- the states of a font

-- the meaning of a name's state: nothing if the name is sought, else a mark and the charstring
abbrev pub name_meaning : Option (List ℕ) → Meaning
name_meaning None = []
name_meaning (Some c) = 0 ∷ c

-- each state of a name is nothing, or that it is sought, or a charstring
abbrev pub AreNameStates : TableMeaning → Type 0
AreNameStates t = (n : Meaning) → (x : Option (Option (List ℕ))) × (maps.get t n ≡ option_map name_meaning x)

-- what stands behind the mark of a name's state
abbrev pub behind_mark : Option Meaning → Option (List ℕ)
behind_mark None = None
behind_mark (Some []) = None
behind_mark (Some (mark ∷ c)) = Some c

-- the names that have glyphs, as a table
abbrev pub glyph_table : CharStrings → TableMeaning
glyph_table g = map_values (λ n c. name_meaning (Some c)) g

-- the table of glyphs and of sought names: a name that has a glyph counts as one of these
abbrev pub names_table : CharStrings → TableMeaning → TableMeaning
names_table g s = joined_table (glyph_table g) s

-- each name of the table is sought
abbrev pub AreSought : TableMeaning → Type 0
AreSought s = (n v : Meaning) → maps.get s n ≡ Some v → v ≡ []

-- the names of the codes of a table Encoding
abbrev pub code_states : Encoding → TableMeaning
code_states (Word w) = maps.empty
code_states (Codes t) = numbered t

module _ {O : Type 0} (m : Interpreter O) (f : FontValue) where
  -- the Subrs whose state is not the bottom
  abbrev pub used_subrs : SparseArray
  used_subrs = maps.retain_keys f.subrs (λ i. is_some (subr_state m f i))

  -- all components that the glyphs name
  abbrev pub all_components : List (List ℕ)
  all_components = flat_map (λ n. named_at m f (maps.get f.glyphs n)) (names_in f.glyphs)

  -- the names that are there, and those that are sought
  abbrev pub name_states : TableMeaning
  name_states = names_table f.glyphs (maps.from_entries (map (λ p. (p, name_meaning None)) all_components))

  -- the states of a font
  abbrev pub states_of : StatesValue
  states_of = (shared_of f, (code_states f.encoding, (name_states, numbered used_subrs)))

-- ---- weights

-- what a Subr weighs more than a stub
abbrev pub subr_adds : Meaning → Meaning → ℕ
subr_adds i c = length c - 1

-- what a name's state adds to the weight of a font
abbrev pub name_adds : ℕ → Meaning → Meaning → ℕ
name_adds len_iv n [] = 0
name_adds len_iv n (mark ∷ c) = 256 + len_iv + length c

-- how many glyphs a name's state adds to a font
abbrev pub name_counts : Meaning → Meaning → ℕ
name_counts n [] = 0
name_counts n (mark ∷ c) = 1

-- the weight of a font whose states are all the bottom
abbrev pub shared_weight : Shared → ℕ
shared_weight s = texts_weight s.0 + length s.1.1 * (129 + s.0.len_iv)

-- the weight of a font of these states
abbrev pub states_weight : StatesValue → ℕ
states_weight s = shared_weight s.0 + total subr_adds (maps.entries (subr_part s)) + total (name_adds s.0.0.len_iv) (maps.entries (name_part s))

-- how many glyphs a font of these states has
abbrev pub states_glyphs : StatesValue → ℕ
states_glyphs s = total name_counts (maps.entries (name_part s))

-- a font of these states is within the limits
pub record StatesFit (s : StatesValue) : Type 0 where
  pub weight : states_weight s ≤ weight_limit
  pub glyphs : states_glyphs s ≤ count_limit

-- ---- joins

-- part by part: what is shared is the same, and each table joins key by key
abbrev pub PartsJoin : StatesValue → StatesValue → StatesValue → Type 0
PartsJoin = BothJoin SameJoin (BothJoin TablesJoin (BothJoin TablesJoin TablesJoin))

-- the states join part by part, within the limits
abbrev pub FontStatesAgree : StatesValue → StatesValue → Type 0
FontStatesAgree = FittingAgree PartsJoin StatesFit

-- states join to a value part by part, and the value is within the limits, or both states are the value
abbrev pub FontStatesJoin : StatesValue → StatesValue → StatesValue → Type 0
FontStatesJoin = FittingJoin PartsJoin StatesFit

-- the states of both, each key's by itself; what is shared is the first's
abbrev pub joined_states : StatesValue → StatesValue → StatesValue
joined_states s t = (s.0, (joined_table (code_part s) (code_part t), (joined_table (name_part s) (name_part t), joined_table (subr_part s) (subr_part t))))
