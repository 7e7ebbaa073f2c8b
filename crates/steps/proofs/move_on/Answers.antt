-- `steps::move_on` meets its contract: an accepted position gives the entry's judgement what it requires.
-- Assumes nothing.
use Rattle.std.proofs.Common.{sym}
use Rattle.positions.proofs.Positions.{placed}
use Rattle.steps.specs.Steps.{move_checked}
use Rattle.steps.proofs.Steps.{hands_back, goes_on}
use Rattle.steps.proofs.move_on.Goals as goal

pub returns-in-Err : goal.returns-in-Err
unfolding move_checked
returns-in-Err c = hands_back _ c.args.position _ _ _ _ c.in-Err.ensures

pub read_entry-requires-clause-layer_bound : goal.read_entry-requires-clause-layer_bound
read_entry-requires-clause-layer_bound c = placed _ _ _ _ _ (sym c.in_default.ensures)

pub returns : goal.returns
unfolding move_checked
returns c = goes_on _ c.args.position _ _ _ _ _ c.in_default.ensures c.read_entry.ensures
