use Rattle.std.proofs.Common.{arith, ◌≡◌, ◌+◌, ◌-◌, ◌∷◌, [], suc, cond, not, map, ap, subst}
use Rattle.t1_algebra.specs.Conflicts.{CodeDiffers, agrees, code_clashes}
use Rattle.t1_subset.{specs.Refusals.{Adds}, proofs.{Telling.{adding_next, adding_ends, each_told}, state_tables.Sides.{code_seen, codes_passing}, state_tables.PassingKeys.{numbers_from}}}
use Rattle.t1_subset.proofs.differences.add_codes.Goals as goal

pub codes-preserved : goal.codes-preserved
codes-preserved c =
    let own = c.args.own.now in let other = c.args.other.now in let i = c.codes.code in
    let more : 256 - i ≡ suc (256 - (i + 1)) = omega (arith, c.codes-test.true) in
    let one = code_seen own.references own.states c.requires.own c.codes-names.result.now c.codes-names.ensures i in
    let two = code_seen other.references other.states c.requires.other c.codes-others.result.now c.codes-others.ensures i in
    adding_next (code_clashes own.references.font.now other.references.font.now) CodeDiffers _ _ _ _ i (numbers_from (i + 1) (256 - (i + 1)))
    (numbers_from i (256 - i)) (ap (numbers_from i) more) c.codes.invariant
    (subst (λ b. Adds c.codes.all.items c.add_code.new.all.items (cond (not b) (CodeDiffers i ∷ []) [])) (λ j. agrees (one j) (two j)) c.in_ok-add_code.ensures)

pub returns : goal.returns
returns c =
    let f = c.args.own.now.references.font.now in let g = c.args.other.now.references.font.now in
    let none : 256 - c.codes.code ≡ 0 = omega (arith, c.codes-test.false) in
    subst (Adds c.args.all.now.items c.codes.all.items) (ap (map CodeDiffers) (codes_passing f g c.requires.own.is_font)) (adding_ends _ _ _ _
    (ap (λ n. each_told (code_clashes f g) CodeDiffers (numbers_from c.codes.code n)) none) c.codes.invariant)
