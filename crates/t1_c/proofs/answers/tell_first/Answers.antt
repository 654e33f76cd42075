use Rattle.std.proofs.{Common.{◌<◌, length, arith}, lemmas.Grind.{common_steps}}
use Rattle.t1_c.proofs.Given.{first_gives}
use Rattle.t1_c.proofs.answers.tell_first.Goals as goal

pub returns : goal.returns
returns c =
    let some : 0 < length c.clear.new.answers = grind (arith, common_steps) in
    first_gives c.args.refusal.now.place c.args.refusal.now.reason c.tell.result c.tell.new.answer c.clear.new.answers some c.clear.ensures c.tell.ensures
