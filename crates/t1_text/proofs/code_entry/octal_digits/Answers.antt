use Rattle.std.proofs.{Common.{ℕ, ◌<◌, ◌≤◌, ◌^◌, arith}, Math.Nat.{pow-le-pow_right}}
use Rattle.t1_text.proofs.code_entry.octal_digits.Goals as goal

-- a number of fewer than 9 digits
small : (value i : ℕ) → value < 8 ^ i → i < 9 → value < 100_000_000
small value i below short =
    let most : 8 ^ i ≤ 8 ^ 8 = pow-le-pow_right {n = 8} (omega arith) {i = i} {j = 8} (omega arith) in
    omega arith

pub overflow_mul-value : goal.overflow_mul-value
overflow_mul-value c = omega (arith, small c.loop-b.value c.loop-b.b-index c.loop-b.invariant.below (omega arith))

pub overflow_add-value : goal.overflow_add-value
overflow_add-value c = omega (arith, small c.loop-b.value c.loop-b.b-index c.loop-b.invariant.below (omega arith))
