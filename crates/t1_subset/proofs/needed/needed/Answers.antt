use Rattle.t1_run.specs.declared.budget.Stop.TheVariants.{TooManyTokens}
use Rattle.std.proofs.Common.{rules, ◌≡◌, ℕ, ◌+◌, take, List, [], Bor, map, filter, sym, ◌∙◌, ap, subst, arith, nat_cmp}
use Rattle.t1_font.specs.FontValue.{notdef}
use Rattle.t1_algebra.specs.{Keep.{has, charstring, components}, Profile.{profile, set_of}}
use Rattle.std.specs.List.{sum_by}
use Rattle.t1_run.{specs.Budgets.{Spends}, proofs.Taken.{spends_nothing}}
use Rattle.t1_subset.specs.{ClosureNames.{push_new, push_all}, NameSets.{lent, asked}, Budgets.{glyph_tokens}}
use Rattle.t1_subset.proofs.Tokens.{closure_more, closure_takes, closure_refused}
use Rattle.t1_subset.proofs.LastRuns.{none_ran}
use Rattle.t1_subset.proofs.{closing.Closures.{ClosureSoFar, closure_start, closure_step, place_below, all_front, got, past}, closing.NumberSets.{calls_to, calls_step}}
use Rattle.std.specs.FinSet as sets
use Rattle.t1_subset.proofs.needed.needed.Goals as goal

pub closure-init : goal.closure-init
closure-init c =
    let f = c.args.font.now in
    let start : c.add_all.new.self ≡ push_all (push_new [] notdef) (lent c.args.names.now) =
    c.in_ok-add_all.ensures ∙ ap (λ (ns : List (List ℕ)). push_all ns (lent c.args.names.now))
    (c.in_ok-add.ensures ∙ ap (λ (ns : List (List ℕ)). push_new ns notdef) c.new-closure.ensures) in (
      subst (λ (ns : List (List ℕ)). ClosureSoFar profile f (asked c.args.names.now) ns 0) (sym start)
          (closure_start profile f (lent c.args.names.now) c.proof_is_font.ensures.glyphs.notdef c.requires),
      ap (λ (ks : List ℕ). sets.from_list {R = nat_cmp} ks) c.in_ok-calls.ensures,
      spends_nothing c.args.budget.now.left,
      none_ran f _ _ c.none-last.result c.none-last.ensures,
    )

pub overflow_add-place : goal.overflow_add-place
overflow_add-place c =
    let below = place_below profile c.args.font.now
    (asked c.args.names.now) c.closure.closure c.closure.place c.in-Some.name.now c.closure.invariant.0 c.in-Some.ensures in
    let most = c.proof_is_font.ensures.glyphs.few in
    omega (arith, below, most)

pub closure-smaller : goal.closure-smaller
closure-smaller c = let below = place_below profile c.args.font.now
    (asked c.args.names.now) c.closure.closure c.closure.place c.in-Some.name.now c.closure.invariant.0 c.in-Some.ensures in omega (arith, below)

pub closure-preserved : goal.closure-preserved
closure-preserved c =
    let f = c.args.font.now in
    let n = c.in-Some.name.now in
    let ns = c.closure.closure in
    let at = got ns c.closure.place n c.in-Some.ensures in
    let found = filter (has f) (components profile f.subrs (charstring f n)) in
    let more : c.add_components.new.closure ≡ push_all ns found =
    c.in_ok-add_components.ensures ∙ ap (λ (ps : List (List ℕ)). push_all ns (filter (has f) ps))
    (ap (map (λ (s : Bor (List ℕ)). s.now)) c.as_slice.ensures.value ∙ c.in_ok-go_on.ensures.components) in
    let l = at.0 in (
      subst (λ (ns : List (List ℕ)). ClosureSoFar profile f (asked c.args.names.now) ns (c.closure.place + 1))
          (sym more) (closure_step profile f (asked c.args.names.now) ns c.closure.place n c.closure.invariant.0 at.0 at.1),
      calls_step f ns c.closure.place n (set_of c.closure.calls) (set_of c.go_on.new.calls) at.0 at.1 c.closure.invariant.1 c.in_ok-go_on.ensures.calls
          ∙ ap (calls_to f) (sym (ap (take (c.closure.place + 1)) more ∙ all_front (c.closure.place + 1) found ns (omega (arith, l)))),
      subst (λ (ns : List (List ℕ)). Spends (sum_by (glyph_tokens f) (take (c.closure.place + 1) ns)) c.args.budget.now.left c.go_on.new.budget.left)
          (sym more)
          (closure_more f ns found c.closure.place n at.0 at.1 c.args.budget.now.left c.closure.budget.left c.go_on.new.budget.left
          c.closure.invariant.2 c.in_ok-go_on.ensures.takes),
      c.in_ok-go_on.ensures.last,
    )

pub returns-in_err-go_on-clause-refused : goal.returns-in_err-go_on-clause-refused
returns-in_err-go_on-clause-refused c =
    let at = got c.closure.closure c.closure.place c.in-Some.name.now c.in-Some.ensures in
    let fewer = λ (h : c.in_err-go_on.field-0.0 ≡ TooManyTokens).
    closure_refused c.args.font.now (asked c.args.names.now) c.closure.closure c.closure.place c.closure.invariant.0 c.in-Some.name.now
    at.0 at.1 c.args.budget.now.left c.closure.budget.left c.closure.invariant.2 (c.in_err-go_on.ensures.refused h) in
    search rules

pub returns-clause-takes : goal.returns-clause-takes
returns-clause-takes c =
    closure_takes c.args.font.now (asked c.args.names.now) c.closure.closure c.closure.place c.closure.invariant.0
    (past c.closure.closure c.closure.place c.in_default.ensures) c.args.budget.now.left c.closure.budget.left c.closure.invariant.2
