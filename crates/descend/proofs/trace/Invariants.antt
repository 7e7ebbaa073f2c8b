use Rattle.descend.specs.Descend.{Traceable}
use Rattle.descend.proofs.Laws.{Tracing}
use Rattle.descend.proofs.trace.Given as goal

-- the first i ids are traced
abbrev pub invariant-loop-i : goal.invariant-loop-i
invariant-loop-i l = (t : Traceable l.nodes l.fn.work l.job) → Tracing l.nodes l.fn.work l.job t l.i l.work
