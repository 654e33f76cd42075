use Rattle.std.proofs.{Common.{rules, sym, subst, ◌∙◌}, lemmas.List.MinMax.{ranks_by}, lemmas.List.Sorted.{IsPermutation-trans}, lemmas.Fn.{always_returns_same}}
use Rattle.std.specs.Ordering.{is_lt}
use Rattle.t1_text.specs.Entries.{KeysRise}
use Rattle.t1_font.proofs.Lasts.{rising_sorted, rising_ends}
use Rattle.t1_font.proofs.repeats.last_entries.Goals as goal

pub returns : goal.returns
returns g c =
    let by = g.O.KeyOrder.by c.args.order in
    let rank = ranks_by (g.O.KeyOrder.total c.args.order) (λ e. e.0) in
    let near = c.in_ok-near.ensures in
    let again = c.in_ok-last.ensures in
    let sorted = c.in_ok-sort_by.ensures in
    record {
      sorted = c.sort_by.new.self.items;
      same = IsPermutation-trans _ _ _ near.same (IsPermutation-trans _ _ _ again.same sorted.permutation);
      rise = sorted.sorted (λ x y. is_lt (by x.0 y.0)) rank (always_returns_same _ _ _ (λ a r f' called. search rules));
      stable = λ x. sorted.stable (λ y z. is_lt (by y.0 z.0)) rank (always_returns_same _ _ _ (λ a r f' called. search rules)) x
          ∙ (again.stable x ∙ near.stable x);
      last_is = c.keep_ends.ensures;
    }

pub returns-then-rises : goal.returns-then-rises
returns-then-rises g c =
    let near = c.in_ok-near.ensures in
    let rising = subst (KeysRise (g.O.KeyOrder.by c.args.order)) c.as_slice.ensures.value (c.rises.ensures.0 c.if-rises.true) in
    record {
      sorted = c.in_ok-near.near.items;
      same = near.same;
      rise = rising_sorted (g.O.KeyOrder.total c.args.order) _ rising;
      stable = near.stable;
      last_is = sym (rising_ends (g.O.KeyOrder.total c.args.order) _ rising);
    }

pub returns-then-rises-2 : goal.returns-then-rises-2
returns-then-rises-2 g c =
    let near = c.in_ok-near.ensures in
    let again = c.in_ok-last.ensures in
    let rising = subst (KeysRise (g.O.KeyOrder.by c.args.order)) c.as_slice-2.ensures.value (c.rises-2.ensures.0 c.if-rises-2.true) in
    record {
      sorted = c.in_ok-last.last.items;
      same = IsPermutation-trans _ _ _ near.same again.same;
      rise = rising_sorted (g.O.KeyOrder.total c.args.order) _ rising;
      stable = λ x. again.stable x ∙ near.stable x;
      last_is = sym (rising_ends (g.O.KeyOrder.total c.args.order) _ rising);
    }
