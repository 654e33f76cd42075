use Rattle.std.proofs.{Common.{arith, drop, length, ◌+◌, ◌≤◌}, lemmas.List.{length-drop}}
use Rattle.t1_bytes.proofs.Places.{nowhere_later, occurs_sooner}
use Rattle.t1_bytes.proofs.texts.find_from.Goals as goal

pub returns-in-Some-clause-first : goal.returns-in-Some-clause-first
returns-in-Some-clause-first c =
    let le : c.args.from ≤ length c.args.bytes.now = omega arith in
    let found = rw c.split_at.ensures.back at c.in-Some.ensures in
    nowhere_later c.args.bytes.now c.args.text.now c.args.from c.in-Some.at (c.args.from + c.in-Some.at) le (omega arith) found.0.before

pub returns-in-None-clause-first : goal.returns-in-None-clause-first
returns-in-None-clause-first c =
    let le : c.args.from ≤ length c.args.bytes.now = omega arith in
    let absent = rw c.split_at.ensures.back at c.in-None.ensures in
    nowhere_later c.args.bytes.now c.args.text.now c.args.from (length (drop c.args.from c.args.bytes.now) + 1)
    (length c.args.bytes.now + 1) le (omega (arith, length-drop c.args.from c.args.bytes.now)) absent

pub returns-in-Some-clause-found : goal.returns-in-Some-clause-found
returns-in-Some-clause-found c =
    let le : c.args.from ≤ length c.args.bytes.now = omega arith in
    let found = rw c.split_at.ensures.back at c.in-Some.ensures in
    occurs_sooner c.args.bytes.now c.args.text.now c.args.from c.in-Some.at le found.1
