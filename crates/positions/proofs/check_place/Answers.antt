-- `positions::check_place` meets its contract: the count of the layer is within the table.
-- Assumes nothing.
use Rattle.std.proofs.Common.{arith}
use Rattle.table.proofs.Offsets.{laid}
use Rattle.positions.proofs.check_place.Goals as goal

pub states_of-requires : goal.states_of-requires
states_of-requires c =
    omega (arith, laid c.args.table.now c.args.layout c.requires.table_headed c.requires.layout_value)
