-- The states and the entries of a join are those of its fonts, and the glyphs of each font run in it as before.
use Rattle.std.proofs.Common.{◌≡◌, ℕ, true, ◌||◌, List, refl, sym, Some}
use Rattle.t1_font.{specs.{Joins.{joined_subr, join_parts}, FontValue.{FontValue}}, proofs.MapLemmas.{get-map_values}}
use Rattle.t1_algebra.specs.{States.{executes, calls_for, Agree, joined_option, subr_state, name_state, code_state, joined_font, Compatible}, JoinedEntries.{EntriesJoin}}
use Rattle.t1_algebra.proofs.{Words.{nat_cmp_total, nat_cmp-IsAntisymmetric, Interpreter}, Maps.{agree_back}, Uses.{some_joined, executing_there, naming_there, called}, Sets.{cases}}
use Rattle.t1_algebra.proofs.Subsets.{same_font, stub_is, same_encoding, code_joined, subr_in_join, glyph_in_join}
use Rattle.std.specs.FinSet as sets
use Rattle.std.specs.FinMap as maps

-- ---- both orders

-- two fonts are compatible in both orders
pub compatible_back : {O : Type 0} (m : Interpreter O) (f g : FontValue) → Compatible m f g → Compatible m g f
compatible_back m f g c = record {
  shells = sym c.shells;
  present = λ i. sym (c.present i);
  kinds = grind (cases, c.kinds);
  subrs = λ i. agree_back (subr_state m f i) (subr_state m g i) (c.subrs i);
  names = λ n. agree_back (name_state m f n) (name_state m g n) (c.names n);
  codes = λ k. agree_back (code_state f.encoding k) (code_state g.encoding k) (c.codes k);
}

-- the charstrings of each name agree in compatible fonts
pub glyph_agree : {O : Type 0} (m : Interpreter O) (f g : FontValue) → Compatible m f g → (n : List ℕ) → Agree (maps.get f.glyphs n) (maps.get g.glyphs n)
glyph_agree m f g c n = grind (cases, c.names n)

-- compatible fonts join to the same font in both orders
pub font_back : {O : Type 0} (m : Interpreter O) (f g : FontValue) → Compatible m f g → joined_font m f g ≡ joined_font m g f
font_back m f g c = same_font (joined_font m f g) (joined_font m g f) c.shells
    (same_encoding _ _ (grind (cases, c.kinds))
    (λ k. grind (cases, code_joined f.encoding g.encoding c.kinds k, code_joined g.encoding f.encoding (compatible_back m f g c).kinds k, c.codes k)))
    (λ i. grind (cases, subr_in_join m f g i, subr_in_join m g f i, c.present i, c.subrs i))
    (λ n. grind (cases, glyph_in_join m f g n, glyph_in_join m g f n, glyph_agree m f g c n))

-- ---- the left side runs as before

module _ {O : Type 0} (m : Interpreter O) (f g : FontValue) where
  -- the join has entries at the indices of the first font
  pub present_joined : (i : ℕ) → maps.contains_key (joined_font m f g).subrs i ≡ maps.contains_key f.subrs i
  present_joined i = grind (cases, subr_in_join m f g i)

  -- the Subrs that a glyph of the first font executes are in the join as before
  pub left_subrs : (n c : List ℕ) → maps.get f.glyphs n ≡ Some c → (i : ℕ) → sets.contains (m.exec f.subrs c) i ≡ true →
      maps.get (joined_font m f g).subrs i ≡ maps.get f.subrs i
  left_subrs n c is i h = grind (cases, subr_in_join m f g i, called m f i n, is, h)

  -- a glyph of the first font runs in the join as before
  pub left_runs : (n c : List ℕ) → maps.get f.glyphs n ≡ Some c
      → (m.direct (joined_font m f g).subrs c ≡ m.direct f.subrs c) × (m.exec (joined_font m f g).subrs c ≡ m.exec f.subrs c)
  left_runs n c is = m.local f.subrs (joined_font m f g).subrs c (left_subrs n c is)

module _ {O : Type 0} (m : Interpreter O) (f g : FontValue) (c : Compatible m f g) where
  -- the join of both fonts
  abbrev pub whole : FontValue
  whole = joined_font m f g

  -- a glyph of the second font runs in the join as before
  pub right_runs : (n v : List ℕ) → maps.get g.glyphs n ≡ Some v → (m.direct whole.subrs v ≡ m.direct g.subrs v) × (m.exec whole.subrs v ≡ m.exec g.subrs v)
  right_runs n v h = grind (cases, font_back m f g c, left_runs m g f n v h)

  -- ---- what the join calls and seeks

  -- a glyph executes an index in the join if it does so in one of the fonts
  pub executes_join : (i : ℕ) (n : List ℕ) → executes m whole n i ≡ (executes m f n i || executes m g n i)
  executes_join i n = grind (cases, glyph_in_join m f g n, left_runs m f g n, right_runs n, glyph_agree m f g c n)

  -- a glyph names a component in the join if it does so in one of the fonts
  pub calls_join : (p n : List ℕ) → calls_for m whole n p ≡ (calls_for m f n p || calls_for m g n p)
  calls_join p n = grind (cases, glyph_in_join m f g n, left_runs m f g n, right_runs n, glyph_agree m f g c n)

  -- ---- the states of the join

  -- the state of a Subr in the join is the join of its states
  pub subr_joined : (i : ℕ) → subr_state m whole i ≡ joined_option (subr_state m f i) (subr_state m g i)
  subr_joined i =
      let uses = some_joined (λ h n. executes m h n i) (λ h n. executing_there m h i (maps.get h.glyphs n)) f g whole (executes_join i) in
      grind (cases, subr_in_join m f g i, uses, c.present i)

  -- the state of a name in the join is the join of its states
  pub name_joined : (n : List ℕ) → name_state m whole n ≡ joined_option (name_state m f n) (name_state m g n)
  name_joined p =
      let seeks = some_joined (λ h n. calls_for m h n p) (λ h n. naming_there m h p (maps.get h.glyphs n)) f g whole (calls_join p) in
      grind (cases, glyph_in_join m f g p, seeks, c.names p)

  -- ---- the entries of a join

  -- the joined font is the font of the entries of both
  pub joined_are_entries : joined_font m f g ≡ join_parts f g
  joined_are_entries = same_font (joined_font m f g) (join_parts f g) refl refl
      (λ i. grind (
        cases,
        subr_in_join m f g i,
        c.present i,
        c.subrs i,
        get-map_values nat_cmp_total nat_cmp-IsAntisymmetric (λ i v. joined_subr v (maps.get g.subrs i)) f.subrs i,
        stub_is,
      ))
      (λ n. refl)

  -- the entries of both make a join
  pub entries_join : EntriesJoin f g
  entries_join = record {
    shells = c.shells;
    present = c.present;
    kinds = c.kinds;
    subrs = λ i. grind (cases, c.subrs i);
    glyphs = glyph_agree m f g c;
    codes = c.codes;
  }
