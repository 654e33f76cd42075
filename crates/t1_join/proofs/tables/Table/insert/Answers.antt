use Rattle.std.{proofs.{Common.{ap, sym, List, subst, ◌∙◌, Ok, Err}, lemmas.Cmp.{nat_list_cmp_total}}, specs.{declared.cmp.Ordering.{Ordering}, List.Sorted.{IsBinarySearchResult}}}
use Rattle.t1_join.{specs.{Meaning.{meaning_cmp}, TableMeaning.{meaning_of_entries, entry_meanings, pair_meaning, Rises}}, proofs.Places.{rises_placed, map_placed, rises_replaced, map_replaced}}
use Rattle.std.specs.FinMap as fin
use Rattle.t1_join.proofs.tables.Table.insert.Given as given
use Rattle.t1_join.proofs.tables.Table.insert.Goals as goal

-- the search compares keys as their meanings compare
found : (g : given.Over) (c : goal.After-drop-key g) →
    IsBinarySearchResult (λ e. meaning_cmp (g.K.Kept.meaning e.0) (g.K.Kept.meaning c.args.key)) c.self.inside.entries.items (Ok c.in-Ok.at)
found g c =
    rw (← c.as_slice.ensures.value) (subst (λ (ord : g.row.K.Denot × g.row.V.Denot → Ordering). IsBinarySearchResult ord c.as_slice.result.now (Ok c.in-Ok.at))
    (λ i e. g.met.K.Key.by_meaning e.0 c.args.key i) c.in-Ok.ensures.search)

absent : (g : given.Over) (c : goal.In_ok-put_there-in-Err g) →
    IsBinarySearchResult (λ e. meaning_cmp (g.K.Kept.meaning e.0) (g.K.Kept.meaning c.args.key)) c.self.inside.entries.items (Err c.in-Err.at)
absent g c = rw (← c.as_slice.ensures.value) (subst (λ (ord : g.row.K.Denot × g.row.V.Denot → Ordering).
    IsBinarySearchResult ord c.as_slice.result.now (Err c.in-Err.at)) (λ i e. g.met.K.Key.by_meaning e.0 c.args.key i) c.in-Err.ensures.search)

pub invariant_of-self : goal.invariant_of-self
invariant_of-self g c =
    rises_replaced nat_list_cmp_total (pair_meaning g.K.Kept.meaning g.V.Kept.meaning)
    (g.K.Kept.meaning c.args.key) (c.index_mut.result.now.0, c.args.value) c.self.inside.entries.items c.in-Ok.at
    c.index_mut.result.now c.self.invariant (rw (← c.as_slice.ensures.value) c.in-Ok.ensures.bound) (found g c)
    (ap (λ e. g.K.Kept.meaning e.0) c.index_mut.ensures.value)

pub invariant_of-self-in-Continue-1 : goal.invariant_of-self-in-Continue-1
invariant_of-self-in-Continue-1 g c =
    subst (λ (entries : List (g.row.K.Denot × g.row.V.Denot)). Rises meaning_cmp (entry_meanings g.K.Kept.meaning g.V.Kept.meaning entries))
    (sym c.in_ok-put_there-in-Err.ensures.ok)
    (rises_placed nat_list_cmp_total (pair_meaning g.K.Kept.meaning g.V.Kept.meaning) (
      c.args.key,
      c.args.value,
    ) c.self.inside.entries.items c.in-Err.at c.self.invariant (rw (← c.as_slice.ensures.value) c.in-Err.ensures.bound) (absent g c))

pub returns-in-Ok-clause-ok : goal.returns-in-Ok-clause-ok
returns-in-Ok-clause-ok g c =
    map_replaced nat_list_cmp_total (pair_meaning g.K.Kept.meaning g.V.Kept.meaning)
    (g.K.Kept.meaning c.args.key) (c.index_mut.result.now.0, c.args.value) c.self.inside.entries.items c.in-Ok.at
    c.index_mut.result.now c.self.invariant (rw (← c.as_slice.ensures.value) c.in-Ok.ensures.bound)
    (found g c) (ap (λ e. g.K.Kept.meaning e.0) c.index_mut.ensures.value)
    ∙ ap (λ m. fin.insert m (g.K.Kept.meaning c.args.key) (g.V.Kept.meaning c.args.value)) c.self.view_is

pub returns-in_ok-put_there-in-Err-clause-ok : goal.returns-in_ok-put_there-in-Err-clause-ok
returns-in_ok-put_there-in-Err-clause-ok g c =
    ap (meaning_of_entries g.K.Kept.meaning g.V.Kept.meaning) c.in_ok-put_there-in-Err.ensures.ok
    ∙ map_placed nat_list_cmp_total (pair_meaning g.K.Kept.meaning g.V.Kept.meaning)
    (c.args.key, c.args.value) c.self.inside.entries.items c.in-Err.at c.self.invariant
    (rw (← c.as_slice.ensures.value) c.in-Err.ensures.bound) (absent g c)
    ∙ ap (λ m. fin.insert m (g.K.Kept.meaning c.args.key) (g.V.Kept.meaning c.args.value)) c.self.view_is
