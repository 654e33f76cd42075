-- The places of each name, and what they come to, as code keeps them.
use Rattle.std.specs.{Prelude.{ℕ, List, [], map, Option, Some, None}, Global.{Vec}, Ordering.{nat_cmp}, Cmp.Lexicographic.{slice_cmp}, BTreeMap.{get_by}}
use Rattle.t1_document.specs.{declared.documents.Place.{Place as CodePlace}, declared.groups.Groups.{Groups}, declared.joins.Outcome.{Outcome}, declared.joins.Joins.{Joins}, Documents.{Place}}
use Rattle.t1_document.specs.Views.{place_view}

-- the places of a vector, if there is one
abbrev pub places_of : Option (Vec CodePlace) → List Place
places_of None = []
places_of (Some v) = map place_view v.items

-- the places of a name
abbrev pub places_in : Groups → List ℕ → List Place
places_in g name = places_of (get_by (λ k. slice_cmp nat_cmp name k.now) g.places)

-- what the places of a name come to
abbrev pub outcome_in : Joins → List ℕ → Option Outcome
outcome_in j name = get_by (λ k. slice_cmp nat_cmp name k.now) j.outcomes
