use Rattle.std.proofs.Common.{◌<◌, arith}
use Rattle.t1_bytes.proofs.Lanes.{block_keys_are, block_behind_is}
use Rattle.t1_bytes.proofs.blocks.keys_of.Goals as goal

pub returns-clause-keys : goal.returns-clause-keys
returns-clause-keys c =
    let small : c.args.key < 65536 = omega arith in
    block_keys_are c.args.key small c.args.block c.sums_of-sums.result c.fits-block.0 c.sums_of-sums.ensures

pub returns-clause-behind : goal.returns-clause-behind
returns-clause-behind c =
    let small : c.args.key < 65536 = omega arith in
    block_behind_is c.args.key c.index.result.now small c.args.block c.sums_of-sums.result c.fits-block.0 c.sums_of-sums.ensures c.index.ensures
