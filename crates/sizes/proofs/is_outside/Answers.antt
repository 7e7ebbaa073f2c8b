-- `sizes::is_outside` meets its contract.
-- Assumes nothing.
use borrow.Author.Tests.{lt-ltb, le-ltb}
use Rattle.sizes.specs.Sizes.{outside}
use Rattle.sizes.proofs.is_outside.Goals as goal

pub returns-then-x-low : goal.returns-then-x-low
unfolding outside
returns-then-x-low c =
    simp (lt-ltb _ _ c.if-x-low.true)

pub returns-else-x-low : goal.returns-else-x-low
unfolding outside
returns-else-x-low c =
    simp (le-ltb _ _ c.if-x-low.false)
