use Rattle.std.proofs.Common.{◌≡◌, ◌∙◌, ◌≤◌, ◌<◌, ℕ, Bool, true, false, refl, sym, nat_lt, arith}
use Rattle.std.proofs.lemmas.Bool.{ltb-true, ltb-false}
use Rattle.std.specs.FinMap as maps
use Rattle.t1_font.specs.FontValue.{declared_count}
use Rattle.t1_join.specs.Meaning.{of_number}
use Rattle.t1_subset.{specs.Users.{user_at}, proofs.state_tables.ByNumber.{has_none, has_next, has_at, has_no}}
use Rattle.t1_subset.proofs.tables.used.Goals as goal

pub indices-init : goal.indices-init
indices-init c = has_none _ (user_at c.args.users.now.items) c.new-used.ensures

pub indices-preserved : goal.indices-preserved
indices-preserved c =
    has_next c.indices.used (user_at c.args.users.now.items) c.indices.index c.indices.invariant c.put.new.table _ c.in_ok-put.ensures c.first_user.ensures

pub returns : goal.returns
returns c = λ q below. by q below (nat_lt q c.indices.index) refl
  where
    by : (q : ℕ) → q < declared_count c.args.font.now.shell.subrs → (b : Bool) → nat_lt q c.indices.index ≡ b →
        maps.get c.indices.used (of_number q) ≡ user_at c.args.users.now.items q
    by q below true t = has_at c.indices.used (user_at c.args.users.now.items) c.indices.index c.indices.invariant q (ltb-true q c.indices.index t)
    by q below false t =
        let from : c.indices.index ≤ q = ltb-false q c.indices.index t in
        let past : c.reached_below-index-end.result ≤ c.indices.index = let p = c.indices-test.false in omega (arith, p) in
        has_no c.indices.used (user_at c.args.users.now.items) c.indices.index c.indices.invariant q from
        ∙ sym (c.reached_below-index-end.ensures.none q (omega (arith, from, past)) (omega (arith, below, c.count.ensures)))
