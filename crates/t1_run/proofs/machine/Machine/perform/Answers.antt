use Rattle.t1_run.{specs.Machine.{state_of, step_of}, proofs.Limits.{executed_keeps}}
use Rattle.t1_run.proofs.machine.Machine.perform.Goals as goal

pub returns-in-Cmd-clause-within : goal.returns-in-Cmd-clause-within
returns-in-Cmd-clause-within g c left marks within =
    executed_keeps c.args.hints c.in-Cmd.command (state_of c.args.self.now left marks)
    (step_of c.execute.result (state_of c.execute.new.self left marks)) within (c.execute.ensures.step left marks)
