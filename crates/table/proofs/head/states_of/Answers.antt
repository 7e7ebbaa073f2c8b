-- `table::head::states_of` meets its contract.
-- Assumes nothing.
use Rattle.table.specs.Table.{states, count_at}
use Rattle.table.proofs.head.states_of.Goals as goal

pub returns : goal.returns
unfolding count_at states
returns c =
    c.read.ensures
