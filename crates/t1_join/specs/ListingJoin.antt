-- What the join of two listings is.
use Rattle.std.specs.Prelude.{◌≡◌, ℕ, List}
use Rattle.t1_join.specs.{declared.listing.JoinFault.{JoinFault}, declared.listing.JoinFault.TheVariants.{Subr, Glyph, Memory}, Meaning.{of_number}}
use Rattle.t1_join.specs.{TableMeaning.{TablesAgree, joined_table, IsFirstConflict}, ListingMeaning.{ListingMeaning}, ListingText.{text_of}}

-- the states of each index and of each name join, and `both` has the joined ones
pub record IsJoined (left right both : ListingMeaning) : Type 0 where
  pub subrs_agree : TablesAgree left.subrs right.subrs
  pub glyphs_agree : TablesAgree left.glyphs right.glyphs
  pub subrs : both.subrs ≡ joined_table left.subrs right.subrs
  pub glyphs : both.glyphs ≡ joined_table left.glyphs right.glyphs

-- the lowest refusal: the smallest index whose states don't join; where all do, the smallest such name
abbrev pub IsJoinFault : ListingMeaning → ListingMeaning → JoinFault → Type 0
IsJoinFault left right (Subr index) = IsFirstConflict left.subrs right.subrs (of_number index)
IsJoinFault left right (Glyph name) = TablesAgree left.subrs right.subrs × IsFirstConflict left.glyphs right.glyphs name.items
IsJoinFault left right Memory = Unit {0}

-- the states of each index and of each name join
abbrev pub ListingsAgree : ListingMeaning → ListingMeaning → Type 0
ListingsAgree left right = TablesAgree left.subrs right.subrs × TablesAgree left.glyphs right.glyphs

-- the listing with the entries of both: the left one's where both have one
abbrev pub joined_listing : ListingMeaning → ListingMeaning → ListingMeaning
joined_listing left right = record { subrs = joined_table left.subrs right.subrs; glyphs = joined_table left.glyphs right.glyphs }

-- the listings join, and the text is what their join is written as
abbrev pub IsJoinedText : ListingMeaning → ListingMeaning → List ℕ → Type 0
IsJoinedText left right text = (both : ListingMeaning) × IsJoined left right both × (text ≡ text_of both)
