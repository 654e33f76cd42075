use Rattle.std.proofs.{Common.{◌≡◌, true, rules, refl, ap, sym, ◌∙◌, length, arith, is_lt, Ordering, Less, Equal, Greater}, lemmas.Fn.{always_returns_same}, lemmas.List.{get_or_default}}
use Rattle.t1_join.proofs.Searches.{behind_all}
use Rattle.t1_join.proofs.tables.place_of.Goals as goal

less_so : (r : Ordering) → true ≡ is_lt r → r ≡ Less
less_so Less h = refl
less_so Equal h = cc
less_so Greater h = cc

pub returns-then-is_lt-clause-search : goal.returns-then-is_lt-clause-search
returns-then-is_lt-clause-search g c =
    let entries = c.args.entries.now in
    behind_all (λ e. g.K.Ord.cmp e.0 c.args.key.now) entries (length entries) refl c.if-end-gt0.true
    (λ d. ap (λ e. g.K.Ord.cmp e.0 c.args.key.now) (get_or_default entries _ d _ (let some = c.if-end-gt0.true in omega (arith, some)))
    ∙ sym c.cmp.ensures ∙ less_so c.cmp.result c.if-is_lt.ensures)

pub returns-clause-search : goal.returns-clause-search
returns-clause-search g c =
    c.binary_search_by.ensures.position (λ e. g.K.Ord.cmp e.0 c.args.key.now) (always_returns_same _ _ _ (λ a r f' called. search rules))
