use Rattle.std.proofs.Common.{ap, ◌∙◌, arith}
use Rattle.t1_font.proofs.CodeTables.{code_put}
use Rattle.std.specs.FinMap as fin
use Rattle.t1_font.proofs.code_names.CodeNames.put.Goals as goal

pub returns : goal.returns
returns c =
    let h = c.self.invariant in
    code_put c.self.inside.names c.self.inside.named c.args.code c.args.name
    (omega (arith, h.names_all, c.ranges.code.fits)) (omega (arith, h.named_all, c.ranges.code.fits))
    ∙ ap (λ m. fin.insert m c.args.code c.args.name.now) c.self.view_is
