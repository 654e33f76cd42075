use Rattle.t1_bytes.proofs.DigitsAhead.{no_pair, half_pair, one_pair}
use Rattle.t1_bytes.proofs.digits.pair_at.Goals as goal

pub returns-in_err-high-clause-read : goal.returns-in_err-high-clause-read
returns-in_err-high-clause-read c = rw c.from_residual.ensures (no_pair c.args.text.now c.in_err-high.ensures.read)

pub returns-in_err-low-clause-read : goal.returns-in_err-low-clause-read
returns-in_err-low-clause-read c = rw c.from_residual-in_err-low.ensures
    (half_pair c.args.text.now c.in_ok-high.rest.now c.in_ok-high.high c.in_ok-high.ensures.read c.in_err-low.ensures.read)

pub returns-clause-read : goal.returns-clause-read
returns-clause-read c =
    let pair = one_pair c.args.text.now c.in_ok-high.rest.now c.in_ok-low.after.now
    c.in_ok-high.high c.in_ok-low.low c.in_ok-high.ensures.read c.in_ok-low.ensures.read in
    rw (c.digit_value.ensures.value, c.digit_value-2.ensures.value) pair
