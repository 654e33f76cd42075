use Rattle.std.proofs.Common.{◌≡◌, Option, Some, ◌∙◌, ap, sym, subst, inl}
use Rattle.std.specs.Prelude.{MatchOption}
use Rattle.t1_join.specs.TableMeaning.{TableMeaning, joined_table, TablesJoin}
use Rattle.t1_algebra.specs.StateTables.{StatesValue, StatesFit, joined_states, code_part, subr_part}
use Rattle.t1_subset.proofs.state_joins.StatesJoin.join_if_agreed.Goals as goal

-- a join of two tables is one of equal tables
joined_at : (s t s2 t2 j : TableMeaning) → s ≡ s2 → t ≡ t2 → TablesJoin s t j → j ≡ joined_table s2 t2
joined_at s t s2 t2 j a b h = h.1 ∙ (λ i. joined_table (a i) (b i))

-- what there is of an option
at_some : {A : Type 0} (r : Option A) (x : A) (P : Type 0) (Q : A → Type 0) → r ≡ Some x → MatchOption r P Q → Q x
at_some r x P Q is h = subst (λ o. MatchOption o P Q) is h

pub returns : goal.returns
returns c =
    let s = c.args.self.now in
    let o = c.args.other.now in
    let agree = c.numbers_agree.ensures.0 c.if-not-numbers_agree.false in
    let copied = c.in_ok-copy.ensures ∙ ap (λ (v : StatesValue). v.0) c.self.view_is in
    let codes = joined_at _ _ (code_part s) (code_part o) _ (ap code_part c.self.view_is) (ap code_part c.other.view_is) c.in_ok-join.ensures in
    let subrs = joined_at _ _ (subr_part s) (subr_part o) _ (ap subr_part c.self.view_is) (ap subr_part c.other.view_is) c.in_ok-join-2.ensures in
    let joined = at_some _ c.in-Some.names _ _ c.in-Some.is c.in_ok-names.ensures in
    let names = subst (λ (p : TableMeaning × TableMeaning). TablesJoin p.0 p.1 c.in-Some.names) (λ i. (c.names.ensures i, c.names-2.ensures i)) joined in
    let names_are = c.names-3.view_is ∙ names.1 in
    let fit : StatesFit (joined_states s o) = c.fits_by.ensures.0 c.if-not-fits_by.false in (
      ((agree.0, copied), ((agree.1, codes), ((names.0, names_are), (agree.2, subrs)))),
      inl (subst StatesFit (λ i. (sym copied i, (sym codes i, (sym names_are i, sym subrs i)))) fit),
    )
