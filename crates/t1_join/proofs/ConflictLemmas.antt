-- Conflicts of tables and of listings: at most one, and the same in either order.
use Rattle.std.proofs.{Common.{◌≡◌, refl, ◌∙◌, ap, Option}, lemmas.Cmp.{nat_list_cmp_total}}
use Rattle.std.specs.{declared.cmp.Ordering.{Ordering}, declared.cmp.Ordering.TheVariants.{Less, Equal, Greater}, Ordering.{ordering_reverse}}
use Rattle.t1_join.specs.{declared.listing.JoinFault.{JoinFault}, declared.listing.JoinFault.TheVariants.{Subr, Glyph, Memory}, Meaning.{Meaning, meaning_cmp, of_number}, StateLaws.{state_back}}
use Rattle.t1_join.specs.{TableMeaning.{TableMeaning, TablesAgree, joined_table, IsFirstConflict}, TableLaws.{table_laws}, ListingMeaning.{ListingMeaning}, ListingJoin.{IsJoined, IsJoinFault}}
use Rattle.t1_join.proofs.EntryLemmas.{same_by_cmp}
use Rattle.std.specs.FinMap as fin

abbrev state_at : TableMeaning → Meaning → Option Meaning
state_at m q = fin.get m q

tables_back : (m n : TableMeaning) → TablesAgree m n → TablesAgree n m
tables_back m n h q = state_back (state_at m q) (state_at n q) (h q)

joined_back : (m n o : TableMeaning) → TablesAgree m n → o ≡ joined_table m n → o ≡ joined_table n m
joined_back m n o h e = (table_laws.commutes m n o (h, e)).1

-- a first conflict is the first in the other order too
pub conflict_back : (m n : TableMeaning) (q : Meaning) → IsFirstConflict m n q → IsFirstConflict n m q
conflict_back m n q c = record {
  differs = λ a. c.differs (state_back (state_at n q) (state_at m q) a);
  first = λ p l. state_back (state_at m p) (state_at n p) (c.first p l);
}

-- two tables have one first conflict
pub conflict_one : (m n : TableMeaning) (p q : Meaning) → IsFirstConflict m n p → IsFirstConflict m n q → p ≡ q
conflict_one m n p q c d = by (meaning_cmp p q) refl
  where
    by : (o : Ordering) → meaning_cmp p q ≡ o → p ≡ q
    by Less e = absurd (c.differs (d.first p e))
    by Equal e = same_by_cmp p q e
    by Greater e = absurd (d.differs (c.first q (nat_list_cmp_total.antisymm q p ∙ ap ordering_reverse e)))

-- two listings join in the other order too, to the same listing
pub joins_back : (left right both : ListingMeaning) → IsJoined left right both → IsJoined right left both
joins_back left right both j = record {
  subrs_agree = tables_back left.subrs right.subrs j.subrs_agree;
  glyphs_agree = tables_back left.glyphs right.glyphs j.glyphs_agree;
  subrs = joined_back left.subrs right.subrs both.subrs j.subrs_agree j.subrs;
  glyphs = joined_back left.glyphs right.glyphs both.glyphs j.glyphs_agree j.glyphs;
}

-- two listings are refused for the same reason in the other order
pub refused_back : (left right : ListingMeaning) (fault : JoinFault) → IsJoinFault left right fault → IsJoinFault right left fault
refused_back left right (Subr index) h = conflict_back left.subrs right.subrs (of_number index) h
refused_back left right (Glyph name) h = (tables_back left.subrs right.subrs h.0, conflict_back left.glyphs right.glyphs name.items h.1)
refused_back left right Memory h = tt

-- listings that join are refused for want of memory alone
pub joined_or_refused : (left right both : ListingMeaning) (fault : JoinFault) → IsJoined left right both → IsJoinFault left right fault → fault ≡ Memory
joined_or_refused left right both (Subr index) j h = absurd (h.differs (j.subrs_agree (of_number index)))
joined_or_refused left right both (Glyph name) j h = absurd (h.1.differs (j.glyphs_agree name.items))
joined_or_refused left right both Memory j h = refl
