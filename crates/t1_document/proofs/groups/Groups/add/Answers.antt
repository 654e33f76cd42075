use Rattle.std.proofs.{Common.{◌≡◌, [], ◌∷◌, ◌++◌, List, ℕ, map, Some, None, sym, ap, ◌∙◌}, lemmas.List.{map-append}, lemmas.Map.Text.{btree_map_updates_str}}
use Rattle.std.specs.{Ordering.{nat_cmp}, Cmp.Lexicographic.{slice_cmp}, BTreeMap.{get_by}, Global.{Vec}}
use Rattle.t1_document.specs.{declared.documents.Place.{Place as CodePlace}, Documents.{Place}, Groups.{places_of}, Views.{place_view}}
use Rattle.t1_document.proofs.{JoinLoops.{place_added}, groups.Groups.add.Goals.{in-Some, in-None}}
use Rattle.t1_document.proofs.groups.Groups.add.Goals as goal

pub returns-in-Ok : goal.returns-in-Ok
returns-in-Ok c =
    let name = c.args.key.now in
    let before = λ (n : List ℕ). get_by (λ k. slice_cmp nat_cmp n k.now) c.args.self.now.places in
    let between = λ (n : List ℕ). get_by (λ k. slice_cmp nat_cmp n k.now) c.remove.new.self in
    let after = λ (n : List ℕ). get_by (λ k. slice_cmp nat_cmp n k.now) c.insert.new.self in
    let taken : map place_view c.match-remove.places.items ≡ places_of (before name) = elim c.match-remove.branch [
      | in-Some w ↦ ap (λ (v : Vec CodePlace). map place_view v.items) w.places-is ∙ ap places_of (sym w.in-Some.is ∙ c.remove.ensures.value)
      | in-None w ↦ ap (λ (v : Vec CodePlace). map place_view v.items) w.places-is
          ∙ (ap (map place_view) w.new-places.ensures.items ∙ ap places_of (sym w.in-None.is ∙ c.remove.ensures.value))
    ] in
    place_added name before between after c.push.new.self (place_view c.args.place)
    (btree_map_updates_str name c.args.self.now.places c.remove.new.self None c.remove.ensures.updates)
    (btree_map_updates_str name c.remove.new.self c.insert.new.self (Some c.push.new.self) c.in-Ok.ensures.updates)
    (ap (map place_view) c.in_ok-push.ensures.items
    ∙ (map-append place_view c.match-remove.places.items (c.args.place ∷ [])
    ∙ ap (λ (ps : List Place). ps ++ place_view c.args.place ∷ []) taken))
