use Rattle.std.proofs.{Common.{◌≡◌, ◌-◌, length, arith, subst, ap, ◌∙◌}, lemmas.List.{length-drop}}
use Rattle.t1_jobs.specs.Words.{Scanned}
use Rattle.t1_jobs.proofs.EndPlaces.{places_passed, none_before}
use Rattle.t1_jobs.proofs.words.next_end.Goals as goal

pub returns-in-Some-clause-passed : goal.returns-in-Some-clause-passed
returns-in-Some-clause-passed c s =
    let text = c.args.text.now in
    let from = c.args.from in
    let rest = c.split_at.result.1.now in
    let within : length rest ≡ length text - from = ap length c.split_at.ensures.back ∙ length-drop from text in
    places_passed text from c.in-Some.skipped (omega (arith, within, c.in-Some.ensures.0.high, s.within))
    (none_before text rest from c.in-Some.skipped c.split_at.ensures.back c.in-Some.ensures.0.before) s

pub returns-in-None-clause-passed : goal.returns-in-None-clause-passed
returns-in-None-clause-passed c s =
    let text = c.args.text.now in
    let from = c.args.from in
    let rest = c.split_at.result.1.now in
    let within : length rest ≡ length text - from = ap length c.split_at.ensures.back ∙ length-drop from text in
    subst (Scanned text) (omega (arith, within, s.within))
    (places_passed text from (length rest) (omega (arith, within, s.within))
    (none_before text rest from (length rest) c.split_at.ensures.back c.in-None.ensures) s)
