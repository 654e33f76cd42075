use Rattle.std.proofs.Common.{ℕ, ◌≡◌, ◌<◌, length, subst, arith}
use Rattle.t1_font.specs.CodeNames.{Marked}
use Rattle.t1_font.proofs.CodeTables.{none_marked, one_marked}
use Rattle.t1_font.proofs.code_names.mark.Goals as goal

pub codes-init : goal.codes-init
codes-init c = (c.requires.ordered, none_marked c.args.named.now c.args.from)

pub codes-preserved : goal.codes-preserved
codes-preserved c =
    let short : c.codes.code < length c.args.named.now = omega (arith, c.codes-test.true, c.requires.within) in
    (omega (arith, c.codes-test.true), one_marked c.args.named.now c.codes.named c.args.from c.codes.code c.codes.auto.code short c.codes.invariant.1)

pub returns : goal.returns
returns c =
    let ends : c.codes.code ≡ c.args.to = omega (arith, c.codes-test.false, c.codes.invariant.0) in
    subst (λ (k : ℕ). Marked c.args.named.now c.codes.named c.args.from k) ends c.codes.invariant.1
