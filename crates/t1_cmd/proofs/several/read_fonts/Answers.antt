use Rattle.std.proofs.Common.{◌+◌, set, get_or, ap, refl, arith, subst, sym}
use Rattle.t1_cmd.{specs.Fonts.{input_by}, proofs.ReaderLoops.{SoFar, goes_on, stops, turns_at, all_said, all_turns}}
use Rattle.t1_cmd.proofs.several.read_fonts.Goals as goal

pub readers-init : goal.readers-init
readers-init g c = (refl, c.new-sources.ensures.items)

pub returns-in-Err-clause-stops : goal.returns-in-Err-clause-stops
returns-in-Err-clause-stops g c =
    stops (input_by c.args.taking) g.R.Read.remaining c.readers.i c.args.readers.now c.readers.readers c.readers.sources.items
    (get_or c.readers.readers c.readers.i c.index-readers-i.result) c.read_font.new.reader c.in-Err.fault c.readers.invariant
    (omega (arith, c.readers-test.true, c.readers.auto.readers)) (ap (get_or c.readers.readers c.readers.i) c.index-readers-i.is)
    c.in-Err.ensures.ends

pub returns-in-Err-clause-turns : goal.returns-in-Err-clause-turns
returns-in-Err-clause-turns g c =
    turns_at (input_by c.args.taking) g.R.Read.remaining c.readers.i c.args.readers.now c.readers.readers c.readers.sources.items
    (get_or c.readers.readers c.readers.i c.index-readers-i.result) c.read_font.new.reader c.readers.invariant
    (ap (get_or c.readers.readers c.readers.i) c.index-readers-i.is) c.read_font.ensures.turns

pub returns-in_err-push_item-clause-turns : goal.returns-in_err-push_item-clause-turns
returns-in_err-push_item-clause-turns g c =
    turns_at (input_by c.args.taking) g.R.Read.remaining c.readers.i c.args.readers.now c.readers.readers c.readers.sources.items
    (get_or c.readers.readers c.readers.i c.index-readers-i.result) c.read_font.new.reader c.readers.invariant
    (ap (get_or c.readers.readers c.readers.i) c.index-readers-i.is) c.read_font.ensures.turns

pub readers-preserved : goal.readers-preserved
readers-preserved g c =
    subst (λ fs. SoFar (input_by c.args.taking) g.R.Read.remaining (c.readers.i + 1) c.args.readers.now
    (set c.readers.readers c.readers.i c.read_font.new.reader) fs)
    (sym c.in_ok-push_item.ensures.added)
    (goes_on (input_by c.args.taking) g.R.Read.remaining c.readers.i c.args.readers.now c.readers.readers c.readers.sources.items
    (get_or c.readers.readers c.readers.i c.index-readers-i.result) c.read_font.new.reader c.in-Ok.source c.readers.invariant
    (omega (arith, c.readers-test.true, c.readers.auto.readers))
    (ap (get_or c.readers.readers c.readers.i) c.index-readers-i.is) c.in-Ok.ensures.ends c.in-Ok.ensures.turns)

pub returns-clause-says : goal.returns-clause-says
returns-clause-says g c =
    all_said (input_by c.args.taking) g.R.Read.remaining c.readers.i c.args.readers.now c.readers.readers c.readers.sources.items c.readers.invariant
    (omega (arith, c.readers-test.false, c.readers.auto.readers))

pub returns-clause-turns : goal.returns-clause-turns
returns-clause-turns g c =
    all_turns (input_by c.args.taking) g.R.Read.remaining c.readers.i c.args.readers.now c.readers.readers c.readers.sources.items c.readers.invariant
