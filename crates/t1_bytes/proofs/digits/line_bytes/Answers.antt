use Rattle.std.proofs.{Common.{ℕ, ◌+◌, ◌*◌, ◌<◌, List, [], ◌∷◌, ◌++◌, length, sym, ap, ◌∙◌, arith}, Math.ListN.{length-set}, lemmas.List.{take_more_set}}
use Rattle.t1_bytes.proofs.DigitsAhead.{one_more_pair}
use Rattle.t1_bytes.proofs.digits.line_bytes.Goals as goal

pub bytes-preserved : goal.bytes-preserved
bytes-preserved c =
    let room : c.bytes.i < length c.bytes.bytes = omega (arith, c.bytes.invariant.size) in
    let pair = one_more_pair c.args.line.now c.bytes.i (omega (arith, c.requires)) in
    record {
      size = simp length-set c.bytes.invariant.size;
      so_far = take_more_set c.bytes.bytes c.bytes.i _ room ∙ (ap (λ (u : List ℕ). u ++ (c.digit_value.result * 16 + c.digit_value-in-bytes.result) ∷ [])
          c.bytes.invariant.so_far ∙ rw (c.digit_value.ensures.value, c.digit_value-in-bytes.ensures.value) (sym pair));
    }
