use Rattle.std.{proofs.{Common.{◌≡◌, ◌++◌, ◌∙◌, ℕ, List, length, take, drop, map, sym, ap, arith}, lemmas.Grind.{common_steps}, lemmas.List.{take_at, drop_at}}, specs.Char.{to_ascii_lowercase}}
use Rattle.t1_join.proofs.Hexadecimals.{lowered}
use Rattle.hex.specs.Hex.{encode_lower}
use Rattle.t1_join.proofs.hexadecimal.Hex.put_digits.Goals as goal

pub returns : goal.returns
returns c =
    let old = c.args.out.now.items in
    let digits = c.self.inside.digits.now in
    let n = c.len-start.result in
    let start : n ≡ length old = grind (arith, common_steps) in
    let items = c.in_ok-extend_from_slice.ensures.items in
    c.lower_from.ensures
    ∙ (ap (λ (t : List ℕ). take n t ++ map to_ascii_lowercase (drop n t)) items
    ∙ ((λ i. take_at old digits n (sym start) i ++ map to_ascii_lowercase (drop_at old digits n (sym start) i))
    ∙ ap (λ (d : List ℕ). old ++ d) (lowered digits c.self.invariant ∙ ap encode_lower c.self.view_is)))
