use Rattle.std.{proofs.{Common.{ℕ, ◌≡◌, ◌/◌, ◌%◌, ◌<◌, length, get_or, ap, ◌∙◌, add-one, arith}, lemmas.List.{length-set}}, specs.Prelude.{bit_xor}}
use Rattle.t1_bytes.{proofs.Ciphers.{byte_encrypted, key_passed, carried}}
use Rattle.t1_bytes.proofs.lockstep.encrypt_both.Goals as goal

pub both-preserved : goal.both-preserved
both-preserved c =
    let l = c.both in
    let a = bit_xor (get_or l.first l.at 0) (l.now / 256 % 256) in
    let b = bit_xor (get_or l.second l.at 0) (l.then / 256 % 256) in
    let first : l.at < length l.first = omega (arith, c.both-test.true) in
    let second : l.at < length l.second = omega (arith, c.if-at-second.true) in
    let upper : (n : ℕ) → n / 256 % 256 ≡ n % 65536 / 256 = λ n. omega arith in
    let one = ap (bit_xor (get_or l.first l.at 0)) (upper l.now) in
    let two = ap (bit_xor (get_or l.second l.at 0)) (upper l.then) in
    let now = carried l.now l.ahead c.key_from-now.result a l.invariant.2 c.key_from-now.ensures in
    let then = carried l.then l.beyond c.wide_key_from-then.result b l.invariant.3 c.wide_key_from-then.ensures in (
      omega (arith, length-set l.first l.at a, first),
      omega (arith, length-set l.second l.at b, second),
      c.ahead_of-ahead-in-both.ensures,
      c.wide_ahead_of-beyond-in-both.ensures,
      rw add-one (byte_encrypted l.first l.at l.now c.key_from-now.result a first one now ∙ l.invariant.4),
      rw add-one (byte_encrypted l.second l.at l.then c.wide_key_from-then.result b second two then ∙ l.invariant.5),
      rw add-one (key_passed l.first l.at l.now c.key_from-now.result a first one now ∙ l.invariant.6),
    )
