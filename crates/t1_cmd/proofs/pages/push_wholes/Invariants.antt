use Rattle.std.proofs.Common.{◌≡◌, ◌++◌, ◌+◌, drop}
use Rattle.t1_cmd.specs.Pages.{whole_lines}
use Rattle.t1_cmd.proofs.pages.push_wholes.Given as goal

abbrev pub invariant-documents : goal.invariant-documents
invariant-documents l = l.out.items ++ whole_lines (l.i + 1) (drop l.i l.pages) ≡ l.fn.out.items ++ whole_lines 1 l.pages
