-- The states of a font, and the join of two fonts.
use Rattle.std.specs.{Prelude.{◌≡◌, ℕ, ◌≤◌, Bool, false, cond, not, ◌&&◌, List, [], Option, Some, None}, List.{list_any}, Str.{bytes_eq}, Option.{unwrap_or}}
use Rattle.t1_font.specs.{FontValue.{FontValue, Encoding, Word, Codes, count_limit, weight_limit, weight, names_in}, Maps.{map_values, merged}, Cut.{stub}, Encodings.{join_encodings, SameKind}}
use Rattle.t1_algebra.specs.{Interpreter.{Interpreter, same_bytes}, Keep.{components}}
use Rattle.std.specs.FinMap as maps
use Rattle.std.specs.FinSet as sets

-- ---- flat states: None is the bottom

-- two states join if they are equal or one is the bottom
abbrev pub Agree : {V : Type 0} → Option V → Option V → Type 0
Agree None y = Unit {0}
Agree (Some v) None = Unit {0}
Agree (Some v) (Some w) = v ≡ w

-- the state of the two that is not the bottom
abbrev pub joined_option : {V : Type 0} → Option V → Option V → Option V
joined_option None y = y
joined_option (Some v) y = Some v

-- the name of a code, if the Encoding is a table
abbrev pub code_state : Encoding → ℕ → Option (List ℕ)
code_state (Word w) c = None
code_state (Codes t) c = maps.get t c

-- the entry is `return`
abbrev pub is_stub : List ℕ → Bool
is_stub c = bytes_eq c stub

-- the limits that a join has to keep
pub record KeepsLimits (f : FontValue) : Type 0 where
  pub weight : weight f ≤ weight_limit
  pub glyphs : maps.len f.glyphs ≤ count_limit

module _ {O : Type 0} (m : Interpreter O) where
  module _ (f : FontValue) where
    -- the charstring of a glyph is there and executes the index
    abbrev pub executed_at : ℕ → Option (List ℕ) → Bool
    executed_at i None = false
    executed_at i (Some c) = sets.contains (m.exec f.subrs c) i

    -- the glyph of this name executes the index
    abbrev pub executes : List ℕ → ℕ → Bool
    executes n i = executed_at i (maps.get f.glyphs n)

    -- the components that the charstring of a glyph names, none if it is not there
    abbrev pub named_at : Option (List ℕ) → List (List ℕ)
    named_at None = []
    named_at (Some c) = components m f.subrs c

    -- the charstring of a glyph is there and names the component
    abbrev pub called_at : List ℕ → Option (List ℕ) → Bool
    called_at p x = list_any (same_bytes p) (named_at x)

    -- the glyph of this name names the component
    abbrev pub calls_for : List ℕ → List ℕ → Bool
    calls_for n p = called_at p (maps.get f.glyphs n)

    -- some glyph executes the index
    abbrev pub is_called : ℕ → Bool
    is_called i = list_any (λ n. executes n i) (names_in f.glyphs)

    -- some glyph names the component
    abbrev pub is_sought : List ℕ → Bool
    is_sought p = list_any (λ n. calls_for n p) (names_in f.glyphs)

    -- an entry, or the bottom if it is a stub that no glyph executes
    abbrev pub entry_state : ℕ → List ℕ → Option (List ℕ)
    entry_state i c = cond (is_stub c && not (is_called i)) None (Some c)

    -- the state of an index with this entry
    abbrev pub state_of_entry : ℕ → Option (List ℕ) → Option (List ℕ)
    state_of_entry i None = None
    state_of_entry i (Some c) = entry_state i c

    -- the state of an index
    abbrev pub subr_state : ℕ → Option (List ℕ)
    subr_state i = state_of_entry i (maps.get f.subrs i)

    -- the state of a name with this glyph: its charstring, or sought (Some None), or the bottom
    abbrev pub state_of_glyph : List ℕ → Option (List ℕ) → Option (Option (List ℕ))
    state_of_glyph n None = cond (is_sought n) (Some None) None
    state_of_glyph n (Some c) = Some (Some c)

    -- the state of a name
    abbrev pub name_state : List ℕ → Option (Option (List ℕ))
    name_state n = state_of_glyph n (maps.get f.glyphs n)

  module _ (f g : FontValue) where
    -- the font of the joined states; a stub stands for the bottom
    abbrev pub joined_font : FontValue
    joined_font = record {
      shell = f.shell;
      encoding = join_encodings f.encoding g.encoding;
      subrs = map_values (λ i c. unwrap_or (joined_option (subr_state f i) (subr_state g i)) stub) f.subrs;
      glyphs = merged f.glyphs g.glyphs;
    }

    -- the shells are equal, the same Subrs are present, the Encodings are the same word or both tables, and all states join
    pub record Compatible : Type 0 where
      pub shells : f.shell ≡ g.shell
      pub present : (i : ℕ) → maps.contains_key f.subrs i ≡ maps.contains_key g.subrs i
      pub kinds : SameKind f.encoding g.encoding
      pub subrs : (i : ℕ) → Agree (subr_state f i) (subr_state g i)
      pub names : (n : List ℕ) → Agree (name_state f n) (name_state g n)
      pub codes : (c : ℕ) → Agree (code_state f.encoding c) (code_state g.encoding c)

    -- the fonts join: their states do, and the joined font is within the limits
    pub record Join : Type 0 where
      pub states : Compatible
      pub within : KeepsLimits joined_font
