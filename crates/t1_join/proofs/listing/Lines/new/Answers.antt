use Rattle.t1_join.proofs.ListingLemmas.{none_listed}
use Rattle.t1_join.proofs.listing.Lines.new.Goals as goal

pub invariant_of-result : goal.invariant_of-result
invariant_of-result c = rw (c.new.ensures, c.new-2.ensures) none_listed
