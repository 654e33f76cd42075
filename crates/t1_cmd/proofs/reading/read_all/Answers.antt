use Rattle.std.proofs.{Common.{rules, arith, take, ap, ◌≡◌, ◌++◌}, lemmas.Grind.{common_steps}, KnownBytes.{Consumes-trans, Consumes-kept}}
use Rattle.t1_cmd.proofs.{ReadLemmas.{taken_all, taken_more}, reading.read_all.Goals.{in-Ok+else-n-limit+else-is_err, in-Err+else-ne}}
use Rattle.t1_cmd.proofs.reading.read_all.Goals as goal

pub returns-in-Ok-eq0-clause-all : goal.returns-in-Ok-eq0-clause-all
returns-in-Ok-eq0-clause-all g c =
    let none : c.in-Ok-eq0.field-0 ≡ 0 = search rules in
    taken_all _ _ _ _ _ _ c.loop-turn.invariant.taken c.in-Ok-eq0.ensures.bytes.0 none (c.in-Ok-eq0.ensures.bytes.1 none (search rules))

pub returns-then-n-limit-clause-refused : goal.returns-then-n-limit-clause-refused
returns-then-n-limit-clause-refused g c =
    taken_more _ _ _ _ _ _ _ c.loop-turn.invariant.taken c.in-Ok.ensures.bytes.0 (search rules) (search rules)

pub loop-turn-preserved : goal.loop-turn-preserved
loop-turn-preserved g c = elim c.match-read.branch [
  | in-Ok+else-n-limit+else-is_err w ↦
      let more = Consumes-trans _ _ _ _ _ c.loop-turn.invariant.taken w.in-Ok.ensures.bytes.0 in
      let items : c.match-read.bytes.items ≡ c.loop-turn.bytes.items ++ take w.in-Ok.n c.read.new.buf = grind (arith, common_steps) in
      record {
        taken = rw items more;
        short = grind (arith, common_steps);
        counted = grind (arith, common_steps);
        kept = grind (arith, common_steps);
        gave = grind (arith, common_steps);
      }
  | in-Err+else-ne w ↦
      record {
        taken = rw (ap (λ b. b.items) w.bytes-is) (Consumes-kept _ _ _ _ c.loop-turn.invariant.taken w.in-Err.ensures.bytes);
        short = grind (arith, common_steps);
        counted = grind (arith, common_steps);
        kept = grind (arith, common_steps);
        gave = grind (arith, common_steps);
      }
]
