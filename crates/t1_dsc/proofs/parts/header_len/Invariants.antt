use Rattle.t1_dsc.{specs.{Parts.{is_header}, Views.{line_view}}, proofs.Mapped.{Counting}}
use Rattle.t1_dsc.proofs.parts.header_len.Given as goal

abbrev pub invariant-lines : goal.invariant-lines
invariant-lines l = Counting (λ r. is_header r.text) line_view l.lines l.at
