use Rattle.std.proofs.{Common.{◌≤◌, ◌+◌, length, ◌∙◌, arith}, lemmas.Simd.{length-put_chunk}}
use Rattle.t1_bytes.proofs.Lanes.{block_decrypted}
use Rattle.t1_bytes.proofs.blocks.decrypt_blocks.Goals as goal

pub eights-preserved : goal.eights-preserved
eights-preserved c =
    let l = c.eights in
    let plain = c.decrypt_block-behind.result.0 in
    let behind = c.decrypt_block-behind.result.1 in
    let room : l.at + 8 ≤ length l.bytes = omega arith in (
      omega (arith, length-put_chunk l.at l.bytes plain),
      block_decrypted l.bytes plain l.at l.now behind room c.decrypt_block-behind.ensures.plain c.decrypt_block-behind.ensures.behind ∙ l.invariant.1,
    )
