use Rattle.std.proofs.{Common.{◌≡◌, ◌∙◌, ap, sym, arith, ℕ, List, Bor, Option, None, is_some, option_map}, lemmas.Map.Iter.{rest_more, rest_all}}
use Rattle.t1_font.specs.{FontValue.{FontValue}, Lent.{lent_number}}
use Rattle.t1_algebra.{specs.{Profile.{profile}, States.{subr_state, state_of_entry}, StateTables.{used_subrs}}, proofs.FontStates.{get-used}}
use Rattle.t1_subset.proofs.{state_tables.FontReferences.{called_is}, state_tables.ByNumber.{before_all, before_next, behind_all, entry_there, entry_is}}
use Rattle.std.specs.FinMap as maps
use Rattle.t1_subset.proofs.tables.subr_table.Goals as goal

-- what is lent is there where it is
some_lent : (o : Option (Bor (List ℕ))) → is_some o ≡ is_some (option_map (λ (s : Bor (List ℕ)). s.now) o)
some_lent o = grind arith

-- an index without an entry has no state
no_state : (f : FontValue) (i : ℕ) → maps.get f.subrs i ≡ None → subr_state profile f i ≡ None
no_state f i h = ap (state_of_entry profile f i) h

pub entries-init : goal.entries-init
entries-init c =
    let f = c.args.font.now in
    before_all c.new-table.result (subr_state profile f) f.subrs c.into_iter-index-iterator.result c.new-table.ensures
    (c.into_iter-index-iterator.ensures.into_iter_gives ∙ (c.entries-index-items.ensures ∙ ap maps.entries c.subrs.ensures))

pub entries-preserved : goal.entries-preserved
entries-preserved c =
    let f = c.args.font.now in
    let i = c.in-Some.index in
    let more = rest_more lent_number _ _ _ _ c.in-Some.is c.next.ensures.steps in
    let there = entry_there c.entries.table (subr_state profile f) f.subrs (no_state f) (i, c.in-Some.body.now) c.next.new.self c.entries.index-iterator
    more c.entries.invariant in
    before_next c.entries.table (subr_state profile f) f.subrs (no_state f) (i, c.in-Some.body.now) c.next.new.self c.entries.index-iterator more
    c.entries.invariant c.put.new.table _ c.in_ok-put.ensures
    (c.subr_state.ensures ∙ entry_is f i _ _ c.is_some-is_called.result (sym there)
    (λ t. c.is_some-is_called.ensures ∙ some_lent c.first_user.result ∙ ap is_some (c.first_user.ensures ∙ c.requires i t) ∙ sym (called_is f i)))

pub returns : goal.returns
returns c =
    let f = c.args.font.now in
    behind_all c.entries.table (subr_state profile f) f.subrs (no_state f) c.entries.index-iterator
    (rest_all lent_number _ _ _ c.in-None.is c.next.ensures.steps) c.entries.invariant (used_subrs profile f) (get-used profile f)
