-- `refute::recall` meets its contract: what it finds refutes the candidate.
-- Assumes nothing.
use native.Mathlib.Omega.{arith}
use Rattle.refute.proofs.Searching.{recalls}
use Rattle.refute.proofs.recall.Goals as goal

pub returns-in-Some-clash : goal.returns-in-Some-clash
returns-in-Some-clash c = recalls _ _ _ _ _ _ c.clash.ensures c.in-Some-clash.is (omega arith)
