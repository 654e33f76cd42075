use Rattle.std.proofs.{Common.{◌≡◌, rules, ap, subst, sym, ◌∙◌, map}, lemmas.List.Sorted.{answers_always}}
use Rattle.std.specs.{FinMap.{entries, get, nat_cmp-IsAntisymmetric}, List.{slice_get}, Option.{option_and_then, option_map}, Cmp.{nat_cmp_total}}
use Rattle.t1_join.proofs.TablePlaces.{found_place}
use Rattle.t1_font.{specs.{FontValue.{SparseArray}, Lent.{numbered_entries, lent_number, filled_at}}, proofs.LentTables.{same_table}}
use Rattle.t1_font.proofs.lent.SparseArray.place_of.Goals as goal

pub returns-in-Stored : goal.returns-in-Stored
returns-in-Stored c = subst (λ (m : SparseArray). option_and_then (slice_get (entries m)) c.place_of.result
    ≡ option_map (λ b. (c.args.number, b)) (get m c.args.number))
    (same_table c.in-Stored.own c.args.self.now (numbered_entries c.self.inside.form) (ap numbered_entries c.in-Stored.is) c.self.view_is) c.place_of.ensures

pub returns-in-Filled : goal.returns-in-Filled
returns-in-Filled c =
    ap (option_and_then (slice_get (entries c.args.self.now))) c.ok.ensures.value
    ∙ found_place (filled_at c.in-Filled.own) c.in-Filled.indices.now (numbered_entries c.self.inside.form) c.args.self.now
    (ap numbered_entries c.in-Filled.is) c.self.invariant c.self.view_is nat_cmp_total nat_cmp-IsAntisymmetric
    c.args.number c.binary_search.result c.binary_search.ensures.bound c.binary_search.ensures.position

pub returns-in-Made : goal.returns-in-Made
returns-in-Made c =
    let position = c.binary_search_by_key.ensures.position (λ e. e.0) (answers_always _ _ _ (λ f a r g called. search rules)) in
    ap (option_and_then (slice_get (entries c.args.self.now))) c.ok-in-Made.ensures.value
    ∙ found_place lent_number c.deref.result.now (numbered_entries c.self.inside.form) c.args.self.now
    (ap numbered_entries c.in-Made.is ∙ ap (map lent_number) (sym c.deref.ensures.value)) c.self.invariant c.self.view_is nat_cmp_total
    nat_cmp-IsAntisymmetric c.args.number c.binary_search_by_key.result c.binary_search_by_key.ensures.bound position
