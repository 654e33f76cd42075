use Rattle.std.proofs.Common.{◌≡◌, ◌+◌, ◌*◌, ◌-◌, ◌++◌, ◌∷◌, take, drop, subst, arith}
use Rattle.hex.specs.Hex.{encode_lower}
use Rattle.t1_bytes.proofs.SpreadLines.{one_more}
use Rattle.t1_bytes.proofs.hexadecimal.spread_lines.Goals as goal

pub lines-preserved : goal.lines-preserved
lines-preserved c =
    let text = c.lines.text in
    let from = c.args.from in
    let left = c.lines.left - 1 in
    one_more c.args.text.now from c.args.count c.args.lines c.requires.enough c.requires.few c.requires.room c.lines.left left text
    (omega (arith, c.lines-test.true)) c.lines.invariant c.spread_line.new.text c.spread_line.auto.text
    (subst (λ len. c.spread_line.new.text ≡ take (from + 65 * left) text ++ (encode_lower (take len (drop (from + 32 * left) text))
    ++ (10 ∷ drop (from + 65 * left + (2 * len + 1)) text))) c.min-len.ensures c.spread_line.ensures)
