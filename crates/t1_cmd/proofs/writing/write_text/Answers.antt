use Rattle.std.proofs.{Common.{rules, arith}, lemmas.Grind.{common_steps}, KnownBytes.{Appends-trans}}
use Rattle.t1_cmd.proofs.WriteLemmas.{take_further}
use Rattle.t1_cmd.proofs.writing.write_text.Goals as goal

pub loop-at-preserved : goal.loop-at-preserved
loop-at-preserved g c =
    let more = Appends-trans _ _ _ _ _ c.loop-at.invariant.1 c.in-Ok.ensures.bytes in
    (search rules, rw take_further more, grind (arith, common_steps))
