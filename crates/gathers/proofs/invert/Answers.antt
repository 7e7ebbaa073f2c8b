-- `gathers::invert` meets its contract.
-- Assumes nothing.
use native.Mathlib.Omega.{arith}
use borrow.Author.Tests.{eq-eqb, ne_eqb}
use Rattle.unfolded.specs.Unfolded.{inverted}
use Rattle.gathers.proofs.invert.Goals as goal

pub returns-then-literal-eq1 : goal.returns-then-literal-eq1
unfolding inverted
returns-then-literal-eq1 c =
    (simp (eq-eqb _ _ c.if-literal-eq1.true), omega arith)

pub returns-else-literal-eq1 : goal.returns-else-literal-eq1
unfolding inverted
returns-else-literal-eq1 c =
    (simp (ne_eqb _ _ c.if-literal-eq1.false), omega arith)
