use Rattle.t1_dsc.{specs.{Parts.{is_page_comment}, Views.{line_view}}, proofs.Mapped.{Counting}}
use Rattle.t1_dsc.proofs.parts.comments_len.Given as goal

abbrev pub invariant-lines : goal.invariant-lines
invariant-lines l = Counting (λ r. is_page_comment r.text) line_view l.lines l.at
