use Rattle.std.proofs.Common.{◌≡◌, map, drop}
use Rattle.t1_document.specs.Views.{place_view}
use Rattle.t1_cmd.specs.Extracts.{first_named}
use Rattle.t1_cmd.proofs.extracts.first_named.Given as goal

abbrev pub invariant-places : goal.invariant-places
invariant-places l = first_named l.name (map place_view (drop l.place-index l.places)) ≡ first_named l.name (map place_view l.places)
