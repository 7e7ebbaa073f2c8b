-- `refute::opposite` meets its contract.
-- Assumes nothing.
use Rattle.trial.proofs.Places.{head_in}
use Rattle.refute.proofs.opposite.Goals as goal

pub connected_of-requires-clause-last_in_bounds : goal.connected_of-requires-clause-last_in_bounds
connected_of-requires-clause-last_in_bounds c = head_in _ _ _ c.args.trial.held
