use Rattle.std.proofs.{Common.{◌≡◌, ℕ, ◌+◌, ◌*◌, ◌<◌, ◌≤◌, ◌^◌, add-one, ◌∙◌, arith}, Math.Nat.{pow-le-pow_right}}
use Rattle.t1_text.proofs.WordLemmas.{decimal_starts, decimal_more, decimal_empty, decimal_breaks}
use Rattle.t1_text.proofs.words.decimal_at.Goals.{then-count-eq0-via-then-count-eq0, then-count-eq0-via-else-count-eq0+then-regular_comes}
use Rattle.t1_text.proofs.words.decimal_at.Goals as goal

-- a number of fewer than 9 digits
small : (value count : ℕ) → value < 10 ^ count → count ≤ 9 → (count ≡ 9 → ⊥) → value < 100_000_000
small value count below few short =
    let most : 10 ^ count ≤ 10 ^ 8 = pow-le-pow_right {n = 10} (omega arith) {i = count} {j = 8} (omega arith) in
    omega arith

tenfold : (value digit count : ℕ) → value < 10 ^ count → digit < 10 → value * 10 + digit < 10 ^ (count + 1)
tenfold value digit count below d = rw add-one (omega arith)

pub digits-init : goal.digits-init
digits-init c = record { number = decimal_starts c.args.bytes.now; few = omega arith; below = omega arith }

pub overflow_mul-value : goal.overflow_mul-value
overflow_mul-value c = omega (arith, small c.digits.value c.digits.count c.digits.invariant.below c.digits.invariant.few c.if-count-eq9.false)

pub overflow_add-value : goal.overflow_add-value
overflow_add-value c =
    omega (arith, small c.digits.value c.digits.count c.digits.invariant.below c.digits.invariant.few c.if-count-eq9.false, c.in-Some.ensures.below)

pub digits-preserved : goal.digits-preserved
digits-preserved c = record {
  number = decimal_more c.digits.count c.digits.value c.in-Some.digit c.digits.rest.now c.in-Some.after.now c.in-Some.ensures.digit ∙ c.digits.invariant.number;
  few = omega arith;
  below = tenfold c.digits.value c.in-Some.digit c.digits.count c.digits.invariant.below c.in-Some.ensures.below;
}

pub returns-then-count-eq0 : goal.returns-then-count-eq0
returns-then-count-eq0 c = elim c.then-count-eq0.branch [
  | then-count-eq0-via-then-count-eq0 w ↦ decimal_empty c.digits.count c.digits.value c.digits.rest.now w.if-count-eq0.true c.in_default.ensures.digit
      ∙ c.digits.invariant.number
  | then-count-eq0-via-else-count-eq0+then-regular_comes w ↦
      decimal_breaks c.digits.count c.digits.value c.digits.rest.now c.in_default.ensures.digit w.if-regular_comes.ensures ∙ c.digits.invariant.number
]
