use Rattle.t1_join.proofs.ConflictLemmas.{joins_back, refused_back, joined_or_refused}
use Rattle.t1_join.proofs.laws.listings_join_alike.Goals as goal

pub returns : goal.returns
returns c = record { joined = joins_back; refused = refused_back; one_of = joined_or_refused }
