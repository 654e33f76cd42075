use Rattle.std.{proofs.Common.{◌≡◌, List, ℕ, drop, Some, sym, ap, ◌∙◌, arith}, specs.{Prelude.{Option, codes}, Option.{option_map}}}
use Rattle.t1_grammar.specs.Grammar.{first_at}
use Rattle.t1_bytes.proofs.Places.{found_at, passed_at, nowhere_at}
use Rattle.t1_text.specs.{Boxes.{BoxNumbers, BoxPlace, font_box, box_begins}, BoxViews.{numbers_view}}
use Rattle.t1_text.proofs.box_places.place_in.Goals as goal

-- the place of a box that was found
abbrev as_place : Option ((List ℕ × (List ℕ × BoxNumbers)) × List ℕ) → Option BoxPlace
as_place = option_map (λ x. record { front = x.0.0; start = x.0.1.0; numbers = x.0.1.1; behind = x.1 })

pub returns-in-Some-font_box_at : goal.returns-in-Some-font_box_at
returns-in-Some-font_box_at c =
    let bytes = c.args.text.now in
    let said : List ℕ × BoxNumbers = (c.in-Some-font_box_at.start.now, numbers_view c.in-Some-font_box_at.numbers) in
    let after = c.in-Some-font_box_at.behind.now in
    let back : drop c.in-Some.place bytes ≡ c.split_at.result.1.now = sym c.split_at.ensures.back in
    let here : font_box.read (drop c.in-Some.place bytes) ≡ Some (said, after) = ap font_box.read back ∙ sym c.in-Some-font_box_at.ensures in
    let found : Some ((c.split_at.result.0.now, said), after) ≡ first_at font_box bytes =
    ap (λ (front : List ℕ). Some ((front, said), after)) c.split_at.ensures.front
    ∙ found_at (codes "/FontBBox") font_box box_begins bytes c.places.from c.in-Some.place said after
    (omega (arith, c.in-Some.ensures.within.1)) c.places.invariant c.in-Some.ensures.first here in
    ap as_place found

pub places-preserved : goal.places-preserved
places-preserved c =
    let bytes = c.args.text.now in
    let back : drop c.in-Some.place bytes ≡ c.split_at.result.1.now = sym c.split_at.ensures.back in
    passed_at (codes "/FontBBox") font_box box_begins bytes c.places.from c.in-Some.place
    (omega (arith, c.in-Some.ensures.within.1)) c.places.invariant c.in-Some.ensures.first
    (ap font_box.read back ∙ sym c.in_default-font_box_at.ensures)

pub returns : goal.returns
returns c =
    ap as_place (nowhere_at (codes "/FontBBox") font_box box_begins c.args.text.now c.places.from c.places.invariant c.in_default.ensures.first)
