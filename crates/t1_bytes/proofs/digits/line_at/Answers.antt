use Rattle.std.proofs.Common.{sym, ◌∙◌}
use Rattle.t1_bytes.proofs.DigitsAhead.{skipped, counted, line_shorter, one_full_line}
use Rattle.t1_bytes.proofs.digits.line_at.Goals as goal

pub returns-clause-full : goal.returns-clause-full
returns-clause-full c = let count = counted c.white_at.result.1.now c.in_ok-line.line.now c.in_ok-line.after.now c.in_ok-line.ensures in count.full

pub returns-clause-read : goal.returns-clause-read
returns-clause-read c =
    let left = skipped c.args.text.now c.white_at.result.0.now c.white_at.result.1.now c.white_at.ensures in
    let count = counted c.white_at.result.1.now c.in_ok-line.line.now c.in_ok-line.after.now c.in_ok-line.ensures in
    one_full_line c.args.text.now c.white_at.result.1.now c.in_ok-line.line.now c.in_ok-line.after.now left count
    (sym c.all_hex.ensures ∙ c.if-not-all_hex.false)

pub returns-clause-shorter : goal.returns-clause-shorter
returns-clause-shorter c =
    let left = skipped c.args.text.now c.white_at.result.0.now c.white_at.result.1.now c.white_at.ensures in
    let count = counted c.white_at.result.1.now c.in_ok-line.line.now c.in_ok-line.after.now c.in_ok-line.ensures in
    line_shorter c.args.text.now c.white_at.result.1.now c.in_ok-line.line.now c.in_ok-line.after.now left count
