use Rattle.std.{proofs.{Common.{◌≡◌, refl, sym, ap, subst, ◌∙◌, List, ℕ, map}, lemmas.List.{nil_from_length}}, specs.{Vec.Iter.{into_iter_items}, Ordering.{nat_cmp}}}
use Rattle.t1_join.specs.TableMeaning.{Rises}
use Rattle.t1_font.specs.{Lent.{stub_at}, FontValue.{FontValue}, Normalizing.{stubs_at, indices_of_all}, Filling.{Fills, FillRefuses}}
use Rattle.t1_font.proofs.{FilledTables.{keys_rise}, normal_fonts.Filled.{stubs_listed, none_filled, all_filled, fills_on, refused_there}}
use Rattle.t1_font.proofs.filling.fill_each.Goals as goal

pub fonts-init : goal.fonts-init
fonts-init c = none_filled (into_iter_items c.into_iter-font-iterator.result) c.in_ok-all.all.items
    (into_iter_items c.into_iter-font-iterator.result) c.in_ok-all.ensures.items refl

pub fonts-preserved : goal.fonts-preserved
fonts-preserved c =
    let fs = into_iter_items c.into_iter-font-iterator.result in
    let at : stubs_at c.args.indices.now ≡ stubs_at (indices_of_all fs) = ap stubs_at c.requires ∙ (stubs_listed (indices_of_all c.args.fonts.items)
    ∙ ap (λ (gs : List FontValue). stubs_at (indices_of_all gs)) (sym c.into_iter-font-iterator.ensures.into_iter_gives.0)) in
    fills_on (stubs_at c.args.indices.now) fs c.fonts.all.items (into_iter_items c.fonts.font-iterator)
    (into_iter_items c.next.new.self) c.in-Some.font c.fonts.invariant c.in-Some.ensures.steps.0 at
    c.push_item.new.items.items c.in-Ok.font c.in-Ok.ensures.filled c.in-Ok.ensures.light c.in_ok-push_item.ensures.added

pub returns-in-Err : goal.returns-in-Err
returns-in-Err c =
    let fs = into_iter_items c.into_iter-font-iterator.result in
    let at : stubs_at c.args.indices.now ≡ stubs_at (indices_of_all fs) = ap stubs_at c.requires ∙ (stubs_listed (indices_of_all c.args.fonts.items)
    ∙ ap (λ (gs : List FontValue). stubs_at (indices_of_all gs)) (sym c.into_iter-font-iterator.ensures.into_iter_gives.0)) in
    subst (λ (gs : List FontValue). FillRefuses gs c.in-Err.fault) c.into_iter-font-iterator.ensures.into_iter_gives.0
    (refused_there (stubs_at c.args.indices.now) fs c.fonts.all.items (into_iter_items c.fonts.font-iterator)
    (into_iter_items c.next.new.self) c.in-Some.font c.fonts.invariant c.in-Some.ensures.steps.0 at c.in-Err.fault c.in-Err.ensures.filled)

pub returns : goal.returns
returns c =
    subst (λ (gs : List FontValue). Fills gs c.fonts.all.items) c.into_iter-font-iterator.ensures.into_iter_gives.0
    (all_filled (into_iter_items c.into_iter-font-iterator.result) c.fonts.all.items (into_iter_items c.fonts.font-iterator)
    (nil_from_length (into_iter_items c.fonts.font-iterator) (sym c.fonts.font-iterator.rest.ok.0 ∙ c.in-None.ensures.steps.0)) c.fonts.invariant)

pub fill-requires : goal.fill-requires
fill-requires c = subst (λ (is : List ℕ). Rises nat_cmp (map stub_at is)) (sym c.requires) (keys_rise (stubs_at (indices_of_all c.args.fonts.items)))
