-- What a listing is: the Subrs and the glyphs of a font program (Adobe Type 1 Font Format 1.1, chapters 2 and 8).
use Rattle.std.specs.{Prelude.{◌≡◌, refl, ℕ, ◌<◌, ◌≤◌, ◌==◌, ◌&&◌, not, nat_le, Bool, true, Some, List, ◌∷◌, length, codes}, List.{list_all, list_any}, Coded.{Coded, code_by, coded×}}
use Rattle.hex.specs.Hex.{IsBytes}
use Rattle.t1_join.specs.{Meaning.{Meaning, of_number}, TableMeaning.{TableMeaning, table_code}}
use Rattle.std.specs.FinMap as fin

-- two finite maps: from the indices of Subrs, and from the names of glyphs, to the bytes that stand there
pub record ListingMeaning : Type 0 where
  pub subrs : TableMeaning
  pub glyphs : TableMeaning

abbrev pub listing_code : Coded ListingMeaning
listing_code =
    code_by (TableMeaning × TableMeaning) (coded× table_code table_code) (λ l. (l.subrs, l.glyphs)) (λ p. record { subrs = p.0; glyphs = p.1 }) (λ _. refl)

-- white space and delimiters end a name (the tokens of chapter 2)
abbrev pub ends_name : ℕ → Bool
ends_name b = list_any (λ x. b == x) (0 ∷ 9 ∷ 10 ∷ 12 ∷ 13 ∷ 32 ∷ codes "()<>[]{}/%")

-- how many bytes a name has at most
abbrev pub listed_name_limit : ℕ
listed_name_limit = 127

-- how many bytes a value has at most
abbrev pub value_limit : ℕ
value_limit = 65535

-- what an index is below
abbrev pub index_limit : ℕ
index_limit = 65535

-- a name has some bytes, at most as many as the limit, and none that ends it
abbrev pub is_listed_name : List ℕ → Bool
is_listed_name name = nat_le 1 (length name) && nat_le (length name) listed_name_limit && list_all (λ b. not (ends_name b)) name

-- a value has bytes, at most as many as the limit
pub record IsValue (v : Meaning) : Type 0 where
  pub bytes : IsBytes v
  pub short : length v ≤ value_limit

-- an index is below the limit
pub record IsIndex (k : Meaning) : Type 0 where
  pub index : ℕ
  pub is : k ≡ of_number index
  pub small : index < index_limit

-- each entry of a listing has an index or a name, and a value
pub record IsListing (l : ListingMeaning) : Type 0 where
  pub indices : (k v : Meaning) → fin.get l.subrs k ≡ Some v → IsIndex k
  pub names : (k v : Meaning) → fin.get l.glyphs k ≡ Some v → is_listed_name k ≡ true
  pub subr_values : (k v : Meaning) → fin.get l.subrs k ≡ Some v → IsValue v
  pub glyph_values : (k v : Meaning) → fin.get l.glyphs k ≡ Some v → IsValue v
