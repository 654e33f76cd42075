use Rattle.std.{proofs.Common.{◌≡◌, map, drop}, specs.{List.{list_all}, Str.{bytes_eq}}}
use Rattle.t1_document.specs.Views.{place_view}
use Rattle.t1_document.proofs.joins.all_have.Given as goal

abbrev pub invariant-places : goal.invariant-places
invariant-places l =
    list_all (λ q. bytes_eq l.text q.text) (map place_view (drop l.place-index l.places)) ≡ list_all (λ q. bytes_eq l.text q.text) (map place_view l.places)
