use Rattle.std.proofs.Common.{◌++◌, map}
use Rattle.t1_dsc.{specs.{Joining.{quiet_line, quiet}, Views.{line_view}}, proofs.WriteLoops.{Writing}}
use Rattle.t1_dsc.proofs.quiet.push_quiet.Given as goal

abbrev pub invariant-lines : goal.invariant-lines
invariant-lines l = Writing quiet_line line_view l.lines l.line-index l.out.items (l.fn.out.items ++ quiet (map line_view l.lines))
