use Rattle.std.proofs.Common.{map}
use Rattle.t1_dsc.{specs.Views.{line_view, page_view}, proofs.PageLoop.{Finding}}
use Rattle.t1_dsc.proofs.parts.pages_in.Given as goal

abbrev pub invariant-lines : goal.invariant-lines
invariant-lines l = Finding line_view l.lines l.at (map page_view l.pages.items)
