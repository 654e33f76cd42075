use Rattle.std.proofs.Common.{◌∙◌, sym, arith}
use Rattle.t1_bytes.proofs.Ciphers.{last_byte}
use Rattle.t1_bytes.proofs.cipher.decrypt_pairs.Goals as goal

-- a last byte is left
pub returns-then-at-bytes : goal.returns-then-at-bytes
returns-then-at-bytes c =
    sym (last_byte c.pairs.bytes c.pairs.at c.pairs.now (omega (arith, c.pairs-test.false, c.if-at-bytes.true))) ∙ c.pairs.invariant.1
