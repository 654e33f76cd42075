use Rattle.std.proofs.Common.{sym, ◌∙◌, ap, inr, arith, true≢false, ◌==◌}
use Rattle.t1_join.{specs.LineMeaning.{line_entry}, proofs.{ListingLemmas.{entry_fits}, ReadLemmas.{bad_line, repeated, next, back_shorter, no_line_feed}}}
use Rattle.t1_join.proofs.listing.read_in_turn.Goals as goal

pub returns-in_default-read_line : goal.returns-in_default-read_line
returns-in_default-read_line c = inr (bad_line _ _ _ _ c.loop-front.invariant _ _ (sym c.in-Some.ensures) (sym c.in_default-read_line.ensures))

pub returns-then-not-branch : goal.returns-then-not-branch
returns-then-not-branch c = inr (repeated _ _ _ _ c.loop-front.invariant _ _ (sym c.in-Some.ensures)
    (line_entry c.in-Some-read_line.entry) (sym c.in-Some-read_line.ensures) (rw c.if-not-branch.true at c.in_ok-add.ensures))

pub loop-front-smaller : goal.loop-front-smaller
loop-front-smaller c = omega (arith, back_shorter _ _ _ _ c.loop-front.invariant _ _ (sym c.in-Some.ensures))

pub loop-front-preserved : goal.loop-front-preserved
loop-front-preserved c = next _ _ _ _ c.loop-front.invariant _ _ (sym c.in-Some.ensures) (line_entry c.in-Some-read_line.entry) _
    (sym c.in-Some-read_line.ensures) (rw c.if-not-branch.false at c.in_ok-add.ensures).absent (rw c.if-not-branch.false at c.in_ok-add.ensures).new_entry

pub returns : goal.returns
returns c = inr (no_line_feed _ _ _ _ c.loop-front.invariant (sym c.in_default.ensures)
    (λ e. true≢false (sym (ap (λ n. n == 0) e) ∙ sym c.is_empty.ensures ∙ c.if-is_empty.false)))

pub add-requires : goal.add-requires
add-requires c = entry_fits c.in-Some.front.now (line_entry c.in-Some-read_line.entry) (sym c.in-Some-read_line.ensures)
