use Rattle.std.proofs.{Common.{◌+◌, set, get_or, map, [], ◌∷◌, ap, refl, arith, subst, sym, ◌∙◌}, lemmas.List.{map-append}}
use Rattle.t1_cmd.{specs.Documents.{taken_input}, proofs.ReaderLoops.{SoFar, goes_on, stops, turns_at, all_said, all_turns}}
use Rattle.t1_cmd.proofs.documents.read_texts.Goals as goal

pub readers-init : goal.readers-init
readers-init g c = (refl, ap (map (λ v. v.items)) c.new-texts.ensures.items)

pub returns-in-Err-clause-stops : goal.returns-in-Err-clause-stops
returns-in-Err-clause-stops g c =
    stops (taken_input c.args.taken) g.R.Read.remaining c.readers.i c.args.readers.now c.readers.readers (map (λ v. v.items) c.readers.texts.items)
    (get_or c.readers.readers c.readers.i c.index-readers-i.result) c.read_text.new.reader c.in-Err.fault c.readers.invariant
    (omega (arith, c.readers-test.true, c.readers.auto.readers)) (ap (get_or c.readers.readers c.readers.i) c.index-readers-i.is)
    c.in-Err.ensures.ends

pub returns-in-Err-clause-turns : goal.returns-in-Err-clause-turns
returns-in-Err-clause-turns g c =
    turns_at (taken_input c.args.taken) g.R.Read.remaining c.readers.i c.args.readers.now c.readers.readers (map (λ v. v.items) c.readers.texts.items)
    (get_or c.readers.readers c.readers.i c.index-readers-i.result) c.read_text.new.reader c.readers.invariant
    (ap (get_or c.readers.readers c.readers.i) c.index-readers-i.is) c.read_text.ensures.turns

pub returns-in_err-push_item-clause-turns : goal.returns-in_err-push_item-clause-turns
returns-in_err-push_item-clause-turns g c =
    turns_at (taken_input c.args.taken) g.R.Read.remaining c.readers.i c.args.readers.now c.readers.readers (map (λ v. v.items) c.readers.texts.items)
    (get_or c.readers.readers c.readers.i c.index-readers-i.result) c.read_text.new.reader c.readers.invariant
    (ap (get_or c.readers.readers c.readers.i) c.index-readers-i.is) c.read_text.ensures.turns

pub readers-preserved : goal.readers-preserved
readers-preserved g c =
    subst (λ fs. SoFar (taken_input c.args.taken) g.R.Read.remaining (c.readers.i + 1) c.args.readers.now
    (set c.readers.readers c.readers.i c.read_text.new.reader) fs)
    (sym (ap (map (λ v. v.items)) c.in_ok-push_item.ensures.added ∙ map-append (λ v. v.items) c.readers.texts.items (c.in-Ok.text ∷ [])))
    (goes_on (taken_input c.args.taken) g.R.Read.remaining c.readers.i c.args.readers.now c.readers.readers (map (λ v. v.items) c.readers.texts.items)
    (get_or c.readers.readers c.readers.i c.index-readers-i.result) c.read_text.new.reader c.in-Ok.text.items c.readers.invariant
    (omega (arith, c.readers-test.true, c.readers.auto.readers))
    (ap (get_or c.readers.readers c.readers.i) c.index-readers-i.is) c.in-Ok.ensures.ends c.in-Ok.ensures.turns)

pub returns-clause-says : goal.returns-clause-says
returns-clause-says g c =
    all_said (taken_input c.args.taken) g.R.Read.remaining c.readers.i c.args.readers.now c.readers.readers (map (λ v. v.items) c.readers.texts.items)
    c.readers.invariant
    (omega (arith, c.readers-test.false, c.readers.auto.readers))

pub returns-clause-turns : goal.returns-clause-turns
returns-clause-turns g c =
    all_turns (taken_input c.args.taken) g.R.Read.remaining c.readers.i c.args.readers.now c.readers.readers (map (λ v. v.items) c.readers.texts.items)
    c.readers.invariant
