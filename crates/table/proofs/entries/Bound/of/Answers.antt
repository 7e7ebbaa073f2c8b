-- `table::entries::Bound::of` meets its contract: each word is within the head.
-- Assumes nothing.
use Rattle.std.proofs.Common.{arith}
use Rattle.table.proofs.Offsets.{laid, head_length_lem}
use Rattle.table.proofs.entries.Bound.of.Goals as goal

pub connected_of-requires-clause-last_in_bounds : goal.connected_of-requires-clause-last_in_bounds
connected_of-requires-clause-last_in_bounds c =
    omega (arith, laid c.args.table.now c.args.layout c.requires.table_headed c.requires.layout_value, head_length_lem c.args.layout.frames)

pub states_of-requires : goal.states_of-requires
states_of-requires c =
    omega (arith, laid c.args.table.now c.args.layout c.requires.table_headed c.requires.layout_value)
