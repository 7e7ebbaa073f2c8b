-- `table::head::head_length` meets its contract.
-- Assumes nothing.
use Rattle.table.specs.Table.{head_length}
use Rattle.table.proofs.head.head_length.Goals as goal

pub returns : goal.returns
unfolding head_length
returns c =
    c.connected_at.ensures
