use Rattle.std.proofs.Common.{◌<◌, arith}
use Rattle.t1_bytes.proofs.Lanes.{upper_bytes_fit, block_plain_is}
use Rattle.t1_bytes.proofs.blocks.decrypt_block.Goals as goal

pub overflow_cast-result : goal.overflow_cast-result
overflow_cast-result c =
    let small : c.args.key < 65536 = omega arith in
    upper_bytes_fit c.args.key small c.args.block c.keys_of-behind.result.0 c.fits-block.0 c.keys_of-behind.ensures.keys

pub returns-clause-plain : goal.returns-clause-plain
returns-clause-plain c = block_plain_is c.args.key c.args.block c.keys_of-behind.result.0 c.fits-block.0 c.keys_of-behind.ensures.keys
