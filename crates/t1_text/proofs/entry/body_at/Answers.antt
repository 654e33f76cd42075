use Rattle.std.proofs.Common.{true, sym, arith, length}
use Rattle.t1_bytes.specs.White.{white, gap}
use Rattle.t1_text.specs.{Entry.{length_from}, Words.{one_white, word, phrase_of, passes}, Views.{phrase_view}}
use Rattle.t1_text.proofs.PlaceLemmas.{behind_read, counted, no_longer}
use Rattle.t1_text.proofs.entry.body_at.Goals as goal

pub returns-clause-place : goal.returns-clause-place
returns-clause-place c =
    let n = length c.in_ok-bytes.rest.now in
    let part = c.in_ok-bytes.bytes.now in
    behind_read gap c.args.bytes.now (_, c.in_ok-rest.rest.now) (sym c.in_ok-rest.ensures) part n
    (behind_read (length_from c.args.len_iv) c.in_ok-rest.rest.now (_, c.in_ok-len.rest.now) (sym c.in_ok-len.ensures.value) part n
    (behind_read gap c.in_ok-len.rest.now (_, c.in_ok-rest-2.rest.now) (sym c.in_ok-rest-2.ensures) part n
    (behind_read word c.in_ok-rest-2.rest.now (_, c.in_ok-rd.rest.now) (sym c.in_ok-rd.ensures) part n
    (behind_read one_white c.in_ok-rd.rest.now (_, c.in_ok-rest-3.rest.now) (sym c.in_ok-rest-3.ensures) part n
    (counted c.in_ok-len.len c.in_ok-rest-3.rest.now (part, c.in_ok-bytes.rest.now) (sym c.in_ok-bytes.ensures))))))

pub returns-clause-left : goal.returns-clause-left
returns-clause-left c =
    omega (
      arith,
      no_longer white c.in_ok-bytes.rest.now (c.white_at.result.0.now, c.white_at.result.1.now) (sym c.white_at.ensures),
      no_longer (phrase_of (passes true)) c.white_at.result.1.now (phrase_view c.in_ok-phrase.phrase, c.in_ok-phrase.rest.now) (sym c.in_ok-phrase.ensures),
    )
