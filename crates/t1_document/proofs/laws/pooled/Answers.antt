use Rattle.t1_document.proofs.{PlacesFind.{places_find, pooled_others_stay, one_pooled_by_keys}, OwnStarts.{start_is_free}}
use Rattle.t1_document.proofs.{KeyedAgain.{pooled_again_by_keys}, AnyOrder.{in_any_order_by_keys}}
use Rattle.t1_document.proofs.laws.pooled.Goals as goal

pub returns : goal.returns
returns c = record {
  finds = places_find;
  others = pooled_others_stay;
  free = start_is_free;
  one = one_pooled_by_keys;
  again = pooled_again_by_keys;
  orders = in_any_order_by_keys;
}
