use Rattle.t1_font.{specs.Gathering.{CodesAlone}, proofs.Arrays.{NamesSoFar}}
use Rattle.t1_font.proofs.encoding.names_at.Given as goal

abbrev pub invariant-names : goal.invariant-names
invariant-names l = NamesSoFar l.spacing l.bytes l.rest l.gathered.codes l.code × CodesAlone l.initial.gathered l.gathered
