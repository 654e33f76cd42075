use Rattle.std.proofs.Common.{Bool, ◌&&◌, take, sym, ap, ◌∙◌}
use Rattle.t1_bytes.{specs.Eexec.{all_hex}, proofs.DigitsAhead.{one_more_hex}}
use Rattle.t1_bytes.proofs.digits.all_hex.Goals as goal

pub bytes-preserved : goal.bytes-preserved
bytes-preserved c =
    ap (λ (r : Bool). r && c.is_hex_digit-digits.result) c.bytes.invariant
    ∙ (ap (λ (r : Bool). all_hex (take c.bytes.byte-index c.args.bytes.now) && r) c.is_hex_digit-digits.ensures
    ∙ sym (one_more_hex c.args.bytes.now c.bytes.byte-index c.bytes-test.true))
