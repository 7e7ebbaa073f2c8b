-- `quiet::advance` meets its contract: a step that was refused has moved nothing.
-- Assumes nothing.
use Rattle.quiet.proofs.Stages.{unmoved}
use Rattle.quiet.proofs.advance.Goals as goal

pub returns-in_err-moved-clause-position : goal.returns-in_err-moved-clause-position
returns-in_err-moved-clause-position c = unmoved _ _ _ c.args.position.now _ _ c.in_err-moved.ensures.answer
