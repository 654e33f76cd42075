-- Why two fonts do not join: the lowest conflict, and all conflicts.
use Rattle.std.specs.{Prelude.{ℕ, Bool, true, cond, not, ◌&&◌, ◌||◌, List, [], ◌∷◌, ◌++◌, map, Option, Some, None, nat_le}, declared.cmp.Ordering.{Ordering}, Ordering.{nat_cmp}, List.{list_any}}
use Rattle.std.specs.Option.{unwrap_or}
use Rattle.t1_font.specs.{FontValue.{FontValue, Encoding, Word, Codes, name_cmp, count_limit, weight_limit, weight}, Maps.{map_values, merged}}
use Rattle.t1_algebra.specs.{Interpreter.{Interpreter, same_bytes}, Keep.{has}, Shared.{ShellPart, shared_of, differing_part, differing_parts}}
use Rattle.t1_algebra.specs.{Searches.{KeySet, members, smallest, passing, found, or_else}, States.{executes, calls_for, code_state, subr_state, joined_font}}
use Rattle.std.specs.FinMap as maps

-- why two fonts do not join, the lowest kind first; a component is told with the smallest glyph that names it in a font that lacks it, and a Subr with the
-- smallest glyph that executes it
pub data Conflict : Type 0 where
  ShellDiffers : (part : ShellPart) → Conflict
  CodeDiffers : (code : ℕ) → Conflict
  GlyphDiffers : (name : List ℕ) → Conflict
  LacksComponent : (glyph component : List ℕ) → Conflict
  SubrDiffers : (index : ℕ) (user : Option (List ℕ)) → Conflict
  OverLimit : Conflict

-- the keys of either map
abbrev pub keys_of_both : {K X : Type 0} {R : K → K → Ordering} → maps.FinMap R X → maps.FinMap R X → maps.FinMap R ℕ
keys_of_both a b = map_values (λ k v. 0) (merged a b)

-- ---- tests

-- two byte strings join as states
abbrev pub agrees : Option (List ℕ) → Option (List ℕ) → Bool
agrees None y = true
agrees (Some v) None = true
agrees (Some v) (Some w) = same_bytes v w

-- the codes of either table, if both Encodings are tables
abbrev pub codes_of_both : Encoding → Encoding → KeySet nat_cmp
codes_of_both (Word v) e = maps.empty
codes_of_both (Codes s) (Word w) = maps.empty
codes_of_both (Codes s) (Codes t) = keys_of_both s t

-- the values of a key in two maps do not join
abbrev pub clashes_at : {K : Type 0} {R : K → K → Ordering} → maps.FinMap R (List ℕ) → maps.FinMap R (List ℕ) → K → Bool
clashes_at a b k = not (agrees (maps.get a k) (maps.get b k))

-- ---- conflicts

module _ (f g : FontValue) where
  -- both tables have the code, with different names
  abbrev pub code_clashes : ℕ → Bool
  code_clashes c = not (agrees (code_state f.encoding c) (code_state g.encoding c))

  -- both fonts have the name, with different charstrings
  abbrev pub glyph_clashes : List ℕ → Bool
  glyph_clashes n = not (agrees (maps.get f.glyphs n) (maps.get g.glyphs n))

  -- the names of the glyphs of either font
  abbrev pub glyphs_of_both : KeySet name_cmp
  glyphs_of_both = keys_of_both f.glyphs g.glyphs

  -- the first part of the shells that differs
  abbrev pub shell_conflict : Option ShellPart
  shell_conflict = differing_part (shared_of f) (shared_of g)

  -- the smallest code in conflict
  abbrev pub code_conflict : Option ℕ
  code_conflict = smallest code_clashes (codes_of_both f.encoding g.encoding)

  -- the smallest name in conflict
  abbrev pub glyph_conflict : Option (List ℕ)
  glyph_conflict = smallest glyph_clashes glyphs_of_both

-- ---- shells alone

-- a font without its Subrs; its table, if it has one, declares as many
abbrev pub without_subrs : FontValue → FontValue
without_subrs f = record f { subrs = maps.empty }

-- the first part in which the first of some fonts whose shell differs from that of f differs from it, whichever Subrs are present
abbrev pub shell_conflict_among : FontValue → List FontValue → Option ShellPart
shell_conflict_among f [] = None
shell_conflict_among f (g ∷ gs) = found (λ p. p) (shell_conflict (without_subrs f) (without_subrs g)) (shell_conflict_among f gs)

-- the same of the fonts of a list and their first
abbrev pub shells_conflict : List FontValue → Option ShellPart
shells_conflict [] = None
shells_conflict (f ∷ fs) = shell_conflict_among f fs

-- ---- glyphs and Subrs

module _ {O : Type 0} (m : Interpreter O) where
  -- the font lacks a component that its glyph of this name calls for
  abbrev pub wants : FontValue → List ℕ → List ℕ → Bool
  wants f n p = not (has f p) && calls_for m f n p

  module _ (f g : FontValue) where
    -- a glyph of either font calls for a component that its font lacks
    abbrev pub wanted_by : List ℕ → List ℕ → Bool
    wanted_by p n = wants f n p || wants g n p

    -- one font has the component, and the other lacks it and calls for it
    abbrev pub component_clashes : List ℕ → Bool
    component_clashes p = (has f p || has g p) && list_any (wanted_by p) (members (glyphs_of_both f g))

    -- both fonts have an entry, the entries differ, and neither is a stub that no glyph executes
    abbrev pub subr_clashes : ℕ → Bool
    subr_clashes i = not (agrees (subr_state m f i) (subr_state m g i))

    -- the glyph of this name executes the index in either font
    abbrev pub used_by : ℕ → List ℕ → Bool
    used_by i n = executes m f n i || executes m g n i

    -- the joined font is within the limits
    abbrev pub is_within : Bool
    is_within = nat_le (weight (joined_font m f g)) weight_limit && nat_le (maps.len (joined_font m f g).glyphs) count_limit

    -- the smallest component that one font has and the other lacks and calls for
    abbrev pub component_conflict : Option (List ℕ)
    component_conflict = smallest component_clashes (glyphs_of_both f g)

    -- the smallest index whose entries are in conflict
    abbrev pub subr_conflict : Option ℕ
    subr_conflict = smallest subr_clashes (keys_of_both f.subrs g.subrs)

    -- the conflict of a component
    abbrev pub lacks_component : List ℕ → Conflict
    lacks_component p = LacksComponent (unwrap_or (smallest (wanted_by p) (glyphs_of_both f g)) []) p

    -- the conflict of a Subr
    abbrev pub subr_differs : ℕ → Conflict
    subr_differs i = SubrDiffers i (smallest (used_by i) (glyphs_of_both f g))

    -- the lowest conflict of the shells and states of two fonts
    abbrev pub states_conflict : Option Conflict
    states_conflict =
        found ShellDiffers (shell_conflict f g)
        (found CodeDiffers (code_conflict f g)
        (found GlyphDiffers (glyph_conflict f g)
        (found lacks_component component_conflict
        (found subr_differs subr_conflict None))))

    -- the lowest conflict of two fonts
    abbrev pub conflict : Option Conflict
    conflict = found (λ c. c) states_conflict (cond is_within None (Some OverLimit))

    -- all conflicts of the shells and states of two fonts, the lowest first
    abbrev pub states_conflicts : List Conflict
    states_conflicts =
        map ShellDiffers (differing_parts (shared_of f) (shared_of g))
        ++ (map CodeDiffers (passing (code_clashes f g) (codes_of_both f.encoding g.encoding))
        ++ (map GlyphDiffers (passing (glyph_clashes f g) (glyphs_of_both f g))
        ++ (map lacks_component (passing component_clashes (glyphs_of_both f g))
        ++ map subr_differs (passing subr_clashes (keys_of_both f.subrs g.subrs)))))

    -- all conflicts of two fonts, the lowest first; the limits are one where there is no other
    abbrev pub conflicts : List Conflict
    conflicts = or_else states_conflicts (cond is_within [] (OverLimit ∷ []))
