use Rattle.std.specs.Prelude.{not}
use Rattle.t1_dsc.{specs.{Structure.{same_role}, Views.{line_view}}, proofs.Mapped.{Counting}}
use Rattle.t1_dsc.proofs.parts.len_before.Given as goal

abbrev pub invariant-lines : goal.invariant-lines
invariant-lines l = Counting (λ r. not (same_role l.role r.role)) line_view l.lines l.at
