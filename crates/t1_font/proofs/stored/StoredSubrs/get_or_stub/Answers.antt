use Rattle.std.{proofs.Common.{sym, ap, ◌∙◌, map, refl, unwrap_or}, specs.{Cmp.{nat_cmp_total, nat_cmp_is}, FinMap.{get, nat_cmp-IsAntisymmetric}, declared.cmp.Ordering.TheVariants.{Less}}}
use Rattle.t1_join.proofs.TablePlaces.{none_behind}
use Rattle.t1_font.{specs.{Cut.{stub}, Ranges.{numbered_at}}, proofs.LentTables.{value_at}}
use Rattle.t1_font.proofs.stored.StoredSubrs.get_or_stub.Goals as goal

pub returns-in-Some : goal.returns-in-Some
returns-in-Some c = ap (λ o. unwrap_or o stub) (
    sym (value_at nat_cmp_total nat_cmp-IsAntisymmetric c.args.self.now c.likely_place.result (c.in-Some.there, c.in-Some.body.now)
    (sym c.in-Some.ensures.entry))
    ∙ ap (get c.args.self.now) c.if-there-index.true)

-- the index is behind the last one
pub returns-in-Some-last : goal.returns-in-Some-last
returns-in-Some-last c =
    let s = c.self.inside in
    sym (ap (λ o. unwrap_or o stub) (none_behind (numbered_at s.buffer.now) s.places.now (map (numbered_at s.buffer.now) s.places.now) c.args.self.now refl
    c.self.invariant c.self.view_is nat_cmp_total nat_cmp-IsAntisymmetric c.args.index _ c.in-Some-last.ensures.value
    (sym (nat_cmp_is _ c.args.index Less c.if-last-index.true))))
