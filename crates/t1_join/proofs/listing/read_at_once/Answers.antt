use Rattle.std.proofs.Common.{rules, sym, ap, ◌∙◌, ◌==◌, true≢false, arith}
use Rattle.t1_join.{specs.LineMeaning.{line_entry}, proofs.AtOnce.{gathering_starts, gathered_shorter, gathered_next, gathered_bad, gathered_cut, gathered_repeats, gathered_listed, gathering_ends}}
use Rattle.t1_join.proofs.listing.read_at_once.Goals as goal

pub loop-front-init : goal.loop-front-init
loop-front-init c = gathering_starts c.args.text.now c.new-lines.result c.new-lines.ensures

pub loop-front-smaller : goal.loop-front-smaller
loop-front-smaller c = omega (arith, gathered_shorter _ _ _ c.loop-front.invariant _ _ (sym c.in-Some.ensures))

pub loop-front-preserved : goal.loop-front-preserved
loop-front-preserved c = gathered_next _ _ _ c.loop-front.invariant _ _ (sym c.in-Some.ensures)
    (line_entry c.in-Some-read_line.line) (sym c.in-Some-read_line.ensures) _ c.in_ok-add.ensures

pub invariant_of-result : goal.invariant_of-result
invariant_of-result c = gathered_listed _ _ _ c.loop-front.invariant (c.in-Some-tables.subrs, c.in-Some-tables.glyphs) c.in-Some-tables.ensures

pub returns : goal.returns
returns c = gathering_ends _ _ _ c.loop-front.invariant
    (c.in-Some-tables.subrs, c.in-Some-tables.glyphs) c.in-Some-tables.ensures (sym c.in_default.ensures) (search rules)

pub returns-in_default-read_line : goal.returns-in_default-read_line
returns-in_default-read_line c = gathered_bad _ _ _ c.loop-front.invariant _ _ (sym c.in-Some.ensures) (sym c.in_default-read_line.ensures)

pub returns-then-not-is_empty : goal.returns-then-not-is_empty
returns-then-not-is_empty c = gathered_cut _ _ _ c.loop-front.invariant (sym c.in_default.ensures)
    (λ e. true≢false (sym (ap (λ n. n == 0) e) ∙ sym c.is_empty.ensures ∙ c.if-not-is_empty.true))

pub returns-in_default-tables : goal.returns-in_default-tables
returns-in_default-tables c = gathered_repeats _ _ _ c.loop-front.invariant c.in_default-tables.ensures
