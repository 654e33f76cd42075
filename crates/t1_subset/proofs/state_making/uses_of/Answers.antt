use Rattle.t1_run.specs.declared.budget.Stop.TheVariants.{TooManyTokens}
use Rattle.std.{proofs.{Common.{rules, ◌≡◌, ℕ, List, Bor, map, option_map, not, ◌&&◌, cond, Some, None, ap, sym, subst, ◌∙◌, refl}, lemmas.Map.Iter.{rest_more, rest_all}}}
use Rattle.std.specs.{List.{list_any, AllByRecursion}, Cmp.Lexicographic.{nat_list_cmp_total}}
use Rattle.std.specs.FinMap.{entries, nat_cmp-IsAntisymmetric, slice_cmp-IsAntisymmetric}
use Rattle.t1_algebra.{specs.{Interpreter.{same_bytes}, Keep.{has}, Profile.{profile}, States.{joined_option, executes, executed_at, called_at}, Conflicts.{wants}}, proofs.Sets.{cases}}
use Rattle.t1_font.{specs.Lent.{lent_name}, proofs.MapLemmas.{entries_all}}
use Rattle.t1_subset.{specs.{Users.{user_at}, References.{same_charstring}}, proofs.Tokens.{spent_starts, spent_again, spent_more, spent_refused, spent_ends}}
use Rattle.t1_subset.proofs.state_tables.FontReferences.{executes_so, calls_so, again_same, noting_starts, noting_again, noting_next, noting_ends}
use Rattle.std.specs.FinMap as maps
use Rattle.std.specs.FinSet as sets
use Rattle.t1_subset.proofs.state_making.uses_of.Goals as goal

pub glyphs-init : goal.glyphs-init
glyphs-init c =
    let f = c.args.font.now in
    let all : c.into_iter-name-iterator.result ≡ entries f.glyphs = search rules in
    let names = ap (map (λ e. e.0)) all in (
      λ q. noting_starts (λ n. executes profile f n q) _ _ _ _ (c.nobody-users.ensures q) refl names,
      λ p. noting_starts (λ n. wants profile f n p) _ _ _ _ (ap (λ t. maps.get t p) c.new-seekers.ensures ∙ maps.get-empty _ p) (grind cases) names,
      spent_starts f _ c.args.budget.now.left names,
      subst (AllByRecursion (λ e. maps.get f.glyphs e.0 ≡ Some e.1)) (sym all)
          (entries_all nat_list_cmp_total (slice_cmp-IsAntisymmetric nat_cmp-IsAntisymmetric) (λ k v. maps.get f.glyphs k ≡ Some v) f.glyphs (λ k v e. e)),
    )

pub glyphs-preserved-then-is_again : goal.glyphs-preserved-then-is_again
glyphs-preserved-then-is_again c =
    let f = c.args.font.now in
    let rest = rest_more lent_name _ _ _ _ c.in-Some.is c.next.ensures.steps in
    let more = ap (map (λ e. e.0)) rest in
    let all = subst (AllByRecursion (λ e. maps.get f.glyphs e.0 ≡ Some e.1)) rest c.glyphs.invariant.3 in
    let again = sym c.is_again.ensures ∙ c.if-is_again.true in
    let same = all.0 ∙ sym (again_same _ _ again) in (
      λ q. noting_again (λ n. executes profile f n q) _ _ _ _ _ _ more (c.glyphs.invariant.0 q) (ap (executed_at profile f q) same),
      λ q. noting_again (λ n. wants profile f n q) _ _ _ _ _ _ more (c.glyphs.invariant.1 q) (ap (λ x. not (has f q) && called_at profile f q x) same),
      spent_again f _ _ _ _ _ _ more c.glyphs.invariant.2 (sym same)
          (ap (same_charstring (option_map (λ s. s.now) c.glyphs.last)) all.0 ∙ again),
      all.1,
    )

pub glyphs-preserved : goal.glyphs-preserved
glyphs-preserved c =
    let f = c.args.font.now in
    let n = c.in-Some.name.now in
    let rest = rest_more lent_name _ _ _ _ c.in-Some.is c.next.ensures.steps in
    let more = ap (map (λ e. e.0)) rest in
    let all = subst (AllByRecursion (λ e. maps.get f.glyphs e.0 ≡ Some e.1)) rest c.glyphs.invariant.3 in
    let there = all.0 in
    let named = ap (map (λ (s : Bor (List ℕ)). s.now)) c.as_slice.ensures.value ∙ c.in_ok-components.ensures.components n there in
    let users = λ (q : ℕ).
    c.in_ok-note_users.ensures q
    ∙ ap (λ b. joined_option (user_at c.glyphs.users.items q) (cond b (Some n) None))
    (ap (λ s. sets.contains s q) (c.in_ok-components.ensures.calls n there) ∙ executes_so f n q) in
    let seekers = λ (q : List ℕ).
    c.in_ok-note_seekers.ensures q
    ∙ ap (λ b. joined_option (maps.get c.glyphs.seekers q) (cond (not (has f q) && b) (Some n) None)) (ap (list_any (same_bytes q)) named ∙ calls_so f n q) in (
      λ q. noting_next (λ n. executes profile f n q) _ _ _ _ _ _ more (c.glyphs.invariant.0 q) _ _ (users q) (ap (executed_at profile f q) (sym there)),
      λ q. noting_next (λ n. wants profile f n q) _ _ _ _ _ _ more (c.glyphs.invariant.1 q) _ _
          (seekers q) (ap (λ x. not (has f q) && called_at profile f q x) (sym there)),
      spent_more f _ _ _ _ _ _ more c.glyphs.invariant.2 _ _ (sym there)
          (ap (same_charstring (option_map (λ s. s.now) c.glyphs.last)) there ∙ (sym c.is_again.ensures ∙ c.if-is_again.false))
          (c.in_ok-components.ensures.takes n there),
      all.1,
    )

pub returns-clause-uses : goal.returns-clause-uses
returns-clause-uses c =
    let f = c.args.font.now in
    let none = ap (map (λ e. e.0)) (rest_all lent_name _ _ _ c.in-None.is c.next.ensures.steps) in
    record {
      users = λ q l. noting_ends (λ n. executes profile f n q) _ _ _ _ none (c.glyphs.invariant.0 q);
      seekers = λ p. noting_ends (λ n. wants profile f n p) _ _ _ _ none (c.glyphs.invariant.1 p);
    }

pub returns-clause-takes : goal.returns-clause-takes
returns-clause-takes c =
    spent_ends c.args.font.now _ _ _ _ (ap (map (λ e. e.0)) (rest_all lent_name _ _ _ c.in-None.is c.next.ensures.steps)) c.glyphs.invariant.2

pub returns-in_err-components-clause-refused : goal.returns-in_err-components-clause-refused
returns-in_err-components-clause-refused c =
    let f = c.args.font.now in
    let rest = rest_more lent_name _ _ _ _ c.in-Some.is c.next.ensures.steps in
    let all = subst (AllByRecursion (λ e. maps.get f.glyphs e.0 ≡ Some e.1)) rest c.glyphs.invariant.3 in
    let other = ap (same_charstring (option_map (λ s. s.now) c.glyphs.last)) all.0 ∙ (sym c.is_again.ensures ∙ c.if-is_again.false) in
    let fewer = λ (h : c.in_err-components.field-0.0 ≡ TooManyTokens).
    spent_refused f _ _ _ _ _ _ (ap (map (λ e. e.0)) rest) c.glyphs.invariant.2 other (c.in_err-components.ensures.refused h c.in-Some.name.now all.0) in
    search rules
