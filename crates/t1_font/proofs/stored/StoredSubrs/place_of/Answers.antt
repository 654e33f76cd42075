use Rattle.std.proofs.{Common.{rules, ap, ◌∙◌, map, refl}, lemmas.List.Sorted.{answers_always}}
use Rattle.std.specs.{FinMap.{entries, nat_cmp-IsAntisymmetric}, List.{slice_get}, Option.{option_and_then}, Cmp.{nat_cmp_total}}
use Rattle.t1_join.proofs.TablePlaces.{found_place}
use Rattle.t1_font.specs.Ranges.{numbered_at}
use Rattle.t1_font.proofs.stored.StoredSubrs.place_of.Goals as goal

pub returns : goal.returns
returns c =
    let s = c.self.inside in
    let position = c.binary_search_by_key.ensures.position (λ e. e.0) (answers_always _ _ _ (λ f a r g called. search rules)) in
    ap (option_and_then (slice_get (entries c.args.self.now))) c.ok.ensures.value
    ∙ found_place (numbered_at s.buffer.now) s.places.now (map (numbered_at s.buffer.now) s.places.now) c.args.self.now refl c.self.invariant
    c.self.view_is nat_cmp_total nat_cmp-IsAntisymmetric c.args.index c.binary_search_by_key.result c.binary_search_by_key.ensures.bound position
