use Rattle.std.proofs.Common.{arith}
use Rattle.t1_font.proofs.FromPieces.{lacks_notdef, declared_over}
use Rattle.t1_font.proofs.file.font_from.Goals as goal

pub returns-then-not-inside : goal.returns-then-not-inside
returns-then-not-inside c = λ o p clear shows. lacks_notdef o p c.args.inside c.args.gathered shows c.if-not-inside.true

pub returns-then-declared_in-gt-COUNT_LIMIT : goal.returns-then-declared_in-gt-COUNT_LIMIT
returns-then-declared_in-gt-COUNT_LIMIT c = λ o p clear shows.
    declared_over o p c.args.inside c.args.gathered shows c.if-not-inside.false (omega (arith, c.declared_in.ensures, c.if-declared_in-gt-COUNT_LIMIT.true))
