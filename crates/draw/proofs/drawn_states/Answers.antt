-- `draw::drawn_states` meets its contract.
-- Assumes nothing.
use Rattle.table.proofs.Parts.{count_in}
use Rattle.draw.proofs.drawn_states.Goals as goal

pub states_of-requires : goal.states_of-requires
states_of-requires c =
    count_in c.args.table.now c.requires.table_headed c.args.t c.requires.t_bound
