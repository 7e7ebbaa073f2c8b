-- `lanes::note_use` meets its contract.
-- Assumes nothing.
use borrow.Author.Tests.{lt-ltb, le-ltb}
use Rattle.lanes.proofs.note_use.Goals as goal

pub returns-then-signal-base : goal.returns-then-signal-base
returns-then-signal-base c =
    simp (lt-ltb _ _ c.if-signal-base.true)

pub returns-else-signal-base : goal.returns-else-signal-base
returns-else-signal-base c =
    simp (le-ltb _ _ c.if-signal-base.false)
