-- `quiet::windows::holds` meets its contract.
-- Assumes nothing.
use borrow.Author.Tests.{lt-ltb, le-ltb, le-leb, lt-leb}
use Rattle.quiet.specs.Windows.{holds}
use Rattle.quiet.proofs.windows.holds.Goals as goal

pub returns-then-first-minute : goal.returns-then-first-minute
unfolding holds
returns-then-first-minute c =
    simp (lt-ltb _ _ c.if-last-first.true, le-leb _ _ c.if-first-minute.true)

pub returns-else-first-minute : goal.returns-else-first-minute
unfolding holds
returns-else-first-minute c =
    simp (lt-ltb _ _ c.if-last-first.true, lt-leb _ _ c.if-first-minute.false)

pub returns-then-first-minute-2 : goal.returns-then-first-minute-2
unfolding holds
returns-then-first-minute-2 c =
    simp (le-ltb _ _ c.if-last-first.false, le-leb _ _ c.if-first-minute-2.true)

pub returns-else-first-minute-2 : goal.returns-else-first-minute-2
unfolding holds
returns-else-first-minute-2 c =
    simp (le-ltb _ _ c.if-last-first.false, lt-leb _ _ c.if-first-minute-2.false)
