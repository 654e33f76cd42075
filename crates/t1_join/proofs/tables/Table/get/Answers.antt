use Rattle.std.proofs.{Common.{rules, sym, ap, subst, ◌∙◌, Some, Ok, Err}, lemmas.Cmp.{nat_list_cmp_total}, lemmas.Fn.{always_returns_same}}
use Rattle.std.specs.{declared.cmp.Ordering.{Ordering}, FinMap.{get}, List.Sorted.{IsBinarySearchResult}}
use Rattle.t1_join.{specs.TableMeaning.{TableMeaning, pair_meaning}, proofs.Searches.{searched}}
use Rattle.t1_join.proofs.tables.Table.get.Goals as goal

-- the closure keeps the key that it captures, so each call compares with the key
pub returns-in-Ok : goal.returns-in-Ok
returns-in-Ok g c =
    let position = c.in-Ok.ensures.position (λ e. g.K.Ord.cmp e.0 c.args.key.now) (always_returns_same _ _ _ (λ a r f' called. search rules)) in
    let by_meanings = subst (λ (ord : g.row.K.Denot × g.row.V.Denot → Ordering). IsBinarySearchResult ord c.deref.result.now (Ok c.in-Ok.at))
    (λ i e. g.met.K.Key.by_meaning e.0 c.args.key.now i) position in
    let answer = searched nat_list_cmp_total (pair_meaning g.K.Kept.meaning g.V.Kept.meaning) (g.K.Kept.meaning c.args.key.now) c.deref.result.now
    (Ok c.in-Ok.at) (rw c.deref.ensures.value c.self.invariant) c.in-Ok.ensures.bound by_meanings c.index.result.now in
    ap (λ (e : g.row.K.Denot × g.row.V.Denot). Some (g.V.Kept.meaning e.1)) c.index.ensures
    ∙ sym (rw c.deref.ensures.value at answer) ∙ ap (λ (m : TableMeaning). get m (g.K.Kept.meaning c.args.key.now)) c.self.view_is

pub returns-in-Err : goal.returns-in-Err
returns-in-Err g c =
    let position = c.in-Err.ensures.position (λ e. g.K.Ord.cmp e.0 c.args.key.now) (always_returns_same _ _ _ (λ a r f' called. search rules)) in
    let by_meanings = subst (λ (ord : g.row.K.Denot × g.row.V.Denot → Ordering). IsBinarySearchResult ord c.deref.result.now (Err c.in-Err.field-0))
    (λ i e. g.met.K.Key.by_meaning e.0 c.args.key.now i) position in
    let answer = searched nat_list_cmp_total (pair_meaning g.K.Kept.meaning g.V.Kept.meaning) (g.K.Kept.meaning c.args.key.now) c.deref.result.now
    (Err c.in-Err.field-0) (rw c.deref.ensures.value c.self.invariant) c.in-Err.ensures.bound by_meanings in
    sym (rw c.deref.ensures.value at answer) ∙ ap (λ (m : TableMeaning). get m (g.K.Kept.meaning c.args.key.now)) c.self.view_is
