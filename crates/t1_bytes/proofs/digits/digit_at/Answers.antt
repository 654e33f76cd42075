use Rattle.std.proofs.Common.{sym, ◌∙◌}
use Rattle.t1_bytes.proofs.DigitsAhead.{skipped, one_digit, no_bytes, other_byte}
use Rattle.t1_bytes.proofs.digits.digit_at.Goals as goal

pub returns-in_err-digit-clause-read : goal.returns-in_err-digit-clause-read
returns-in_err-digit-clause-read c =
    let left = skipped c.args.text.now c.white_at.result.0.now c.white_at.result.1.now c.white_at.ensures in
    rw c.from_residual.ensures (no_bytes c.args.text.now _ left c.in_err-digit.ensures.cases)

pub returns-then-not-is_hex_digit-clause-read : goal.returns-then-not-is_hex_digit-clause-read
returns-then-not-is_hex_digit-clause-read c =
    let left = skipped c.args.text.now c.white_at.result.0.now c.white_at.result.1.now c.white_at.ensures in
    other_byte c.args.text.now _ c.in_ok-digit.after.now c.in_ok-digit.digit.now left c.in_ok-digit.ensures.cases.0
    (sym c.is_hex_digit.ensures ∙ c.if-not-is_hex_digit.true)

pub returns-clause-read : goal.returns-clause-read
returns-clause-read c =
    let left = skipped c.args.text.now c.white_at.result.0.now c.white_at.result.1.now c.white_at.ensures in
    one_digit c.args.text.now _ c.in_ok-digit.after.now c.in_ok-digit.digit.now left c.in_ok-digit.ensures.cases.0
    (sym c.is_hex_digit.ensures ∙ c.if-not-is_hex_digit.false)
