-- What a line says can stand in a listing, and listings keep to it.
use Rattle.std.proofs.Common.{◌≡◌, ◌<◌, ◌≤◌, ◌==◌, ℕ, refl, sym, ◌∙◌, subst, List, [], ◌∷◌, length, cond, Bool, true, false, not, Option, None, Some, Result, Ok, Err, nat_le, ◌&&◌, ◌*◌, arith}
use Rattle.std.proofs.{lemmas.Bool.{leb-true}, lemmas.Cmp.{nat_list_cmp_total}}
use Rattle.std.specs.{Prelude.{option_and_then, if◌then◌else◌}, Option.{option_map}, Bool.{MatchBool}, Result.{result_ok, IfOk, OnErr}, Ordering.{eq_by_cmp}}
use Rattle.hex.{specs.{Hex.{decode_of}, declared.error.FromHexError.{FromHexError}}, proofs.HexLemmas.{decode_of-ok}}
use Rattle.t1_join.specs.{Meaning.{Meaning, meaning_cmp, of_number}, Join.{State, joined_state}, TableMeaning.{TableMeaning, IsNewEntry, IsRepeated, joined_table}, TableLaws.{get_joined}}
use Rattle.t1_join.specs.ListingMeaning.{ListingMeaning, IsValue, IsIndex, IsListing, is_listed_name}
use Rattle.t1_join.specs.{ListingText.{ListedEntry, subr, glyph, split_at, number_after, up_to, listed_index, name_of, bytes_of, subr_of, glyph_of, listed_entry, with_entry}, LineMeaning.{IsEntry}}
use Rattle.t1_join.proofs.{EntryLemmas.{same_by_cmp}, TreeEntries.{is_eq-Equal}}
use Rattle.std.specs.FinMap as fin

-- what digits spell fits an entry
bytes_fit : (hex v : List ℕ) → bytes_of hex ≡ Some v → IsValue v
bytes_fit hex v h = by (nat_le (length hex) 131070) refl (decode_of hex) refl h
  where
    by : (b : Bool) → nat_le (length hex) 131070 ≡ b → (r : Result (List ℕ) FromHexError) → decode_of hex ≡ r → cond b (result_ok r) None ≡ Some v → IsValue v
    by true t (Ok w) d h =
        let ok = decode_of-ok hex w d in
        let few : length hex ≤ 131070 = leb-true (length hex) 131070 t in
        let twice : length hex ≡ 2 * length w = ok.2 in
        let e : w ≡ v = cc in
        subst IsValue e (record { bytes = ok.3; short = omega arith })
    by true t (Err e) d h = cc
    by false t r d h = cc

-- an index is below 65,535
index_small : (word : List ℕ) (i : ℕ) → listed_index word ≡ Some i → i < 65535
index_small word i h = by (nat_le 1 (length word) && nat_le (length word) 5) (number_after 0 word) h
  where
    at_most : (n : ℕ) (b : Bool) → nat_le n 65534 ≡ b → cond b (Some n) None ≡ Some i → i < 65535
    at_most n true t h =
        let few : n ≤ 65534 = leb-true n 65534 t in
        let e : n ≡ i = cc in
        omega arith
    at_most n false t h = cc

    by : (b : Bool) (o : Option ℕ) → cond b (option_and_then (up_to 65534) o) None ≡ Some i → i < 65535
    by true (Some n) h = at_most n (nat_le n 65534) refl h
    by true None h = cc
    by false o h = cc

name_fits : (word name : List ℕ) → name_of word ≡ Some name → is_listed_name name ≡ true
name_fits word name h = by (is_listed_name word) refl h
  where
    by : (b : Bool) → is_listed_name word ≡ b → cond b (Some word) None ≡ Some name → is_listed_name name ≡ true
    by true t h = let e : word ≡ name = cc in subst (λ w. is_listed_name w ≡ true) e t
    by false t h = cc

-- what the line of a Subr says fits a listing
subr_fits : (p : List ℕ × List ℕ) (e : ListedEntry) → subr_of p ≡ Some e → IsEntry e
subr_fits p e h = by (listed_index p.0) refl (bytes_of p.1) refl h
  where
    by : (i : Option ℕ) → listed_index p.0 ≡ i → (v : Option (List ℕ)) → bytes_of p.1 ≡ v → option_and_then (λ n. option_map (subr n) v) i ≡ Some e → IsEntry e
    by (Some i) a (Some v) b h =
        let s : subr i v ≡ e = cc in
        subst IsEntry s (index_small p.0 i a, bytes_fit p.1 v b)
    by (Some i) a None b h = cc
    by None a v b h = cc

-- what the line of a glyph says fits a listing
glyph_fits : (p : List ℕ × List ℕ) (e : ListedEntry) → glyph_of p ≡ Some e → IsEntry e
glyph_fits p e h = by (name_of p.0) refl (bytes_of p.1) refl h
  where
    by : (n : Option (List ℕ)) → name_of p.0 ≡ n → (v : Option (List ℕ)) →
        bytes_of p.1 ≡ v → option_and_then (λ w. option_map (glyph w) v) n ≡ Some e → IsEntry e
    by (Some n) a (Some v) b h =
        let s : glyph n v ≡ e = cc in
        subst IsEntry s (name_fits p.0 n a, bytes_fit p.1 v b)
    by (Some n) a None b h = cc
    by None a v b h = cc

-- what a line says has an index or a name, and a value
pub entry_fits : (line : List ℕ) (e : ListedEntry) → listed_entry line ≡ Some e → IsEntry e
entry_fits [] e h = cc
entry_fits (kind ∷ []) e h = cc
entry_fits (kind ∷ blank ∷ rest) e h = by (blank == 32) (kind == 83) (kind == 71) (split_at 32 rest) h
  where
    by : (b s g : Bool) (p : Option (List ℕ × List ℕ)) →
        (if not b then None else if s then option_and_then subr_of p else if g then option_and_then glyph_of p else None) ≡ Some e → IsEntry e
    by false s g p h = cc
    by true true g (Some p) h = subr_fits p e h
    by true true g None h = cc
    by true false true (Some p) h = glyph_fits p e h
    by true false true None h = cc
    by true false false p h = cc

-- ---- listings

module _ (P : Meaning → Meaning → Type 0) where
  -- each entry of the table has the fact
  abbrev Each : TableMeaning → Type 0
  Each m = (k v : Meaning) → fin.get m k ≡ Some v → P k v

  each_none : Each fin.empty
  each_none k v h = absurd (none_some (sym (fin.get-empty meaning_cmp k) ∙ h))
    where
      none_some : None ≡ Some v → ⊥
      none_some e = cc

  -- what holds of a map and of one more entry holds of both
  each_insert : (m : TableMeaning) (k v : Meaning) → P k v → Each m → Each (fin.insert m k v)
  each_insert m k v p each q w h = by (eq_by_cmp meaning_cmp q k) refl (sym (fin.get-insert nat_list_cmp_total m k v q) ∙ h)
    where
      by : (b : Bool) → eq_by_cmp meaning_cmp q k ≡ b → cond b (Some v) (fin.get m q) ≡ Some w → P q w
      by true t e =
          let same : k ≡ q = sym (same_by_cmp q k (is_eq-Equal (meaning_cmp q k) t)) in
          let value : v ≡ w = cc in
          subst (λ x. P x w) same (subst (P k) value p)
      by false t e = each q w e

  each_joined : (m n : TableMeaning) → Each m → Each n → Each (joined_table m n)
  each_joined m n a b q w h = by (fin.get m q) refl (sym (get_joined m n q) ∙ h)
    where
      by : (x : State) → fin.get m q ≡ x → joined_state x (fin.get n q) ≡ Some w → P q w
      by None t e = b q w e
      by (Some v) t e = a q w (t ∙ e)

abbrev name_key : Meaning → Meaning → Type 0
name_key k v = is_listed_name k ≡ true

abbrev index_key : Meaning → Meaning → Type 0
index_key k v = IsIndex k

abbrev value_at : Meaning → Meaning → Type 0
value_at k v = IsValue v

-- a listing may have no entries
pub none_listed : IsListing (record { subrs = fin.empty; glyphs = fin.empty })
none_listed = record { indices = each_none index_key; names = each_none name_key; subr_values = each_none value_at; glyph_values = each_none value_at }

-- a listing with one more entry that fits is a listing
pub entry_listed : (l : ListingMeaning) (e : ListedEntry) → IsListing l → IsEntry e → IsListing (with_entry e l)
entry_listed l (subr i v) h e = record {
  indices = each_insert index_key l.subrs (of_number i) v (record { index = i; is = refl; small = e.0 }) h.indices;
  names = h.names;
  subr_values = each_insert value_at l.subrs (of_number i) v e.1 h.subr_values;
  glyph_values = h.glyph_values;
}
entry_listed l (glyph n v) h e = record {
  indices = h.indices;
  names = each_insert name_key l.glyphs n v e.0 h.names;
  subr_values = h.subr_values;
  glyph_values = each_insert value_at l.glyphs n v e.1 h.glyph_values;
}

-- what holds of a table, with and without the entry, holds of it once the entry was added or refused
pub table_added : {F : Type 0} (P : TableMeaning → Type 0) (old new : TableMeaning) (k v : Meaning) (r : Result Bool F) →
    IfOk r (λ b. MatchBool b (IsNewEntry old k v new) (IsRepeated old k new)) → OnErr r (new ≡ old) → P old → P (fin.insert old k v) → P new
table_added P old new k v (Ok true) h e p q = subst P (sym h.new_entry) q
table_added P old new k v (Ok false) h e p q = subst P (sym h.unchanged) p
table_added P old new k v (Err x) h e p q = subst P (sym e) p

-- the joined tables of two listings are those of a listing
pub both_listed : (l r : ListingMeaning) → IsListing l → IsListing r →
    IsListing (record { subrs = joined_table l.subrs r.subrs; glyphs = joined_table l.glyphs r.glyphs })
both_listed l r h k = record {
  indices = each_joined index_key l.subrs r.subrs h.indices k.indices;
  names = each_joined name_key l.glyphs r.glyphs h.names k.names;
  subr_values = each_joined value_at l.subrs r.subrs h.subr_values k.subr_values;
  glyph_values = each_joined value_at l.glyphs r.glyphs h.glyph_values k.glyph_values;
}
