-- `steps::step` meets its contract: an accepted head gives the move what it requires.
-- Assumes nothing.
use Rattle.std.proofs.Common.{sym}
use Rattle.table.proofs.Accepted.{headed}
use Rattle.steps.specs.Steps.{step_checked, stepped}
use Rattle.steps.proofs.Steps.{hands_back, goes_on}
use Rattle.steps.proofs.step.Goals as goal

pub returns-in-Err-clause-answer : goal.returns-in-Err-clause-answer
unfolding step_checked stepped
returns-in-Err-clause-answer c = hands_back _ c.args.position _ _ _ _ c.in-Err.ensures

pub move_on-requires : goal.move_on-requires
move_on-requires c = headed _ _ (sym c.in_default.ensures)

pub returns-clause-answer : goal.returns-clause-answer
unfolding step_checked stepped
returns-clause-answer c = goes_on _ c.args.position _ _ _ _ _ c.in_default.ensures c.move_on.ensures
