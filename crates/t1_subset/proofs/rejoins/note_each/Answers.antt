use Rattle.std.proofs.{Common.{rules, ◌≡◌, ◌<◌, ◌+◌, ◌++◌, ◌∷◌, [], ℕ, arith, List, take, length, get_or, sym, ap, ◌≤◌, ◌∙◌}, lemmas.List.{length-map, take_more}}
use Rattle.t1_font.specs.{FontValue.{FontValue}, Normalizing.{filled, filled_all, indices_of_all}}
use Rattle.t1_subset.proofs.{LackTokens.{sought_starts, sought_more, sought_stops, sought_ends}, Plain.{plain_err}, state_tables.Walks.{noted_more}, Rejoining.{map_at, lack_behind, lack_first}}
use Rattle.t1_subset.proofs.rejoins.note_each.Goals as goal

-- there are as many fonts as filled ones
as_many : (fs gs : List FontValue) → gs ≡ filled_all fs → length gs ≡ length fs
as_many fs gs is = ap length is ∙ length-map fs (filled (indices_of_all fs))

-- a place of the filled fonts is one of the fonts
in_both : (fs gs : List FontValue) (i : ℕ) → gs ≡ filled_all fs → i < length gs → i < length fs
in_both fs gs i is l = omega (arith, as_many fs gs is, l)

pub note_filled-requires : goal.note_filled-requires
note_filled-requires c =
    let fs = c.args.fonts.now in
    let i = c.fonts.place in
    let room = in_both fs c.args.full.now i c.requires c.fonts-test.true in
    map_at (filled (indices_of_all fs)) fs i c.index-fonts-place.result c.index-full-place.result room c.index-fonts-place.is
    (c.index-full-place.is ∙ ap (λ (gs : List FontValue). get_or gs i c.index-full-place.result) c.requires)

pub fonts-preserved : goal.fonts-preserved
fonts-preserved c =
    let fs = c.args.fonts.now in
    let gs = c.args.full.now in
    let i = c.fonts.place in
    let g = c.index-full-place.result in
    let noted = c.in-Ok.ensures in
    let next : take i gs ++ g ∷ [] ≡ take (i + 1) gs =
    ap (λ (x : FontValue). take i gs ++ x ∷ []) c.index-full-place.is ∙ sym (take_more gs i g c.fonts-test.true) in (
      noted_more _ _ _ _ _ _ _ _ _ c.fonts.invariant.0 next c.proof_is_font.ensures noted.font noted.references noted.states
          c.in_ok-keep.ensures.references c.in_ok-keep.ensures.states,
      lack_behind fs i c.index-fonts-place.result (in_both fs gs i c.requires c.fonts-test.true) c.index-fonts-place.is c.fonts.invariant.1 noted.none,
      sought_more fs i c.index-fonts-place.result _ _ (in_both fs gs i c.requires c.fonts-test.true) c.index-fonts-place.is c.fonts.invariant.2 _
          noted.none noted.takes,
    )

pub returns-in-Err-clause-lack : goal.returns-in-Err-clause-lack
returns-in-Err-clause-lack c =
    let fs = c.args.fonts.now in
    let i = c.fonts.place in
    plain_err _ _ c.in-Err.fault _ _
    (lack_first fs i c.index-fonts-place.result (in_both fs c.args.full.now i c.requires c.fonts-test.true) c.index-fonts-place.is c.fonts.invariant.1)
    c.in-Err.ensures.lack

pub returns-in-Err-clause-within : goal.returns-in-Err-clause-within
returns-in-Err-clause-within c =
    let fs = c.args.fonts.now in
    let i = c.fonts.place in
    sought_stops fs i c.index-fonts-place.result _ _ (in_both fs c.args.full.now i c.requires c.fonts-test.true) c.index-fonts-place.is c.fonts.invariant.2
    _ c.in-Err.fault c.in-Err.ensures.lack c.in-Err.ensures.within

pub fonts-init : goal.fonts-init
fonts-init c = (search rules, search rules, sought_starts c.args.fonts.now c.args.budget.left)

pub returns-clause-within : goal.returns-clause-within
returns-clause-within c =
    let fs = c.args.fonts.now in
    let end : length fs ≤ c.fonts.place = let few = as_many fs c.args.full.now c.requires in omega (arith, few, c.fonts-test.false) in
    sought_ends fs c.fonts.place _ _ end c.fonts.invariant.2
