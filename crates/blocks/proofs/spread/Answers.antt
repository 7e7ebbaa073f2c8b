-- `blocks::spread` meets its contract.
-- Assumes nothing.
use Rattle.blocks.proofs.Bits.{block_small, spread_bits}
use Rattle.blocks.proofs.spread.Goals as goal

pub overflow_sub-ones : goal.overflow_sub-ones
overflow_sub-ones c =
    block_small c.requires c.power.ensures

pub returns : goal.returns
returns c =
    spread_bits c.requires c.power.ensures c.args.lanes
