use Rattle.std.{proofs.Common.{◌≡◌, map, drop}, specs.{List.{list_all}, Option.{option_map}}}
use Rattle.t1_document.{specs.{Rewriting.{can_stand}, Views.{place_view}}, proofs.JoinLoops.{StandsAt}}
use Rattle.t1_document.proofs.joins.stands.Given as goal

abbrev pub invariant-places : goal.invariant-places
invariant-places l =
    (list_all (can_stand l.text) (map place_view (drop l.place-index l.places)) ≡ list_all (can_stand l.text) (map place_view l.places))
    × StandsAt l.text (option_map (λ p. place_view p.now) l.before)
