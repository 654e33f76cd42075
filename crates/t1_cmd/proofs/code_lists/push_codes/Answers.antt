use Rattle.std.proofs.Common.{◌≡◌, ◌<◌, ◌∙◌, ap, ◌+◌, ◌-◌, ◌++◌, ◌∷◌, [], List, ℕ, arith, rules}
use Rattle.t1_cmd.{specs.CodeLists.{codes_from}, proofs.CodeLemmas.{code_more}}
use Rattle.t1_cmd.proofs.code_lists.push_codes.Goals as goal

pub codes-preserved : goal.codes-preserved
codes-preserved c =
    let code = c.codes.code in
    let below : code < c.args.last + 1 = omega (arith, c.codes-test.true, c.from-code-end.ensures) in
    let pushed : c.push.new.self.items ≡ c.codes.codes.items ++ code ∷ [] = search rules in
    ap (λ (ys : List ℕ). ys ++ codes_from (code + 1) (c.args.last + 1 - (code + 1))) pushed
    ∙ (code_more c.codes.codes.items code (c.args.last + 1) below ∙ c.codes.invariant)
