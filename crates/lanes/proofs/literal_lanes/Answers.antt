-- `lanes::literal_lanes` meets its contract.
-- Assumes nothing.
use borrow.Author.Tests.{eq-eqb, ne_eqb}
use Rattle.lanes.specs.Lanes.{literal_lanes}
use Rattle.lanes.proofs.literal_lanes.Goals as goal

pub returns-then-literal-eq1 : goal.returns-then-literal-eq1
unfolding literal_lanes
returns-then-literal-eq1 c =
    simp (eq-eqb _ _ c.if-literal-eq1.true)

pub returns-else-literal-eq1 : goal.returns-else-literal-eq1
unfolding literal_lanes
returns-else-literal-eq1 c =
    simp (ne_eqb _ _ c.if-literal-eq1.false)
