use Rattle.std.proofs.Common.{rules, ◌≡◌, List, ℕ, drop, Some, sym, ap, ◌∙◌, arith}
use Rattle.t1_grammar.specs.Grammar.{first_at}
use Rattle.t1_bytes.proofs.Places.{found_at, passed_at, nowhere_at}
use Rattle.t1_text.proofs.markers.first.Goals as goal

pub returns-in-Some-at : goal.returns-in-Some-at
returns-in-Some-at g c =
    let m = g.M.Marker in
    let bytes = c.args.bytes.now in
    let said = m.said c.in-Some-at.marker in
    let after = c.in-Some-at.rest.now in
    let back : drop c.in-Some.place bytes ≡ c.split_at.result.1.now = sym c.split_at.ensures.back in
    let here : m.marker.read (drop c.in-Some.place bytes) ≡ Some (said, after) = ap m.marker.read back ∙ sym c.in-Some-at.ensures in
    let found : Some ((c.split_at.result.0.now, said), after) ≡ first_at m.marker bytes =
    ap (λ (front : List ℕ). Some ((front, said), after)) c.split_at.ensures.front
    ∙ found_at m.text m.marker g.met.M.Marker.begins bytes c.places.from c.in-Some.place said after
    (omega (arith, c.in-Some.ensures.within.1)) c.places.invariant (rw c.text.ensures at c.in-Some.ensures.first) here in
    search (rules, found)

pub places-preserved : goal.places-preserved
places-preserved g c =
    let m = g.M.Marker in
    let bytes = c.args.bytes.now in
    let back : drop c.in-Some.place bytes ≡ c.split_at.result.1.now = sym c.split_at.ensures.back in
    passed_at m.text m.marker g.met.M.Marker.begins bytes c.places.from c.in-Some.place
    (omega (arith, c.in-Some.ensures.within.1)) c.places.invariant (rw c.text.ensures at c.in-Some.ensures.first)
    (ap m.marker.read back ∙ sym c.in_default-at.ensures)

pub returns : goal.returns
returns g c = nowhere_at g.M.Marker.text g.M.Marker.marker g.met.M.Marker.begins c.args.bytes.now c.places.from c.places.invariant
    (rw c.text.ensures at c.in_default.ensures.first)
