use Rattle.t1_cmd.{specs.Fonts.{input_by}, proofs.ReaderLoops.{SoFar}}
use Rattle.t1_cmd.proofs.several.read_fonts.Given as goal

abbrev pub invariant-readers : goal.invariant-readers
invariant-readers g l = SoFar (input_by l.fn.taking) g.R.Read.remaining l.i l.fn.readers l.readers l.sources.items
