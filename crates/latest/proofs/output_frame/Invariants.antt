-- `latest::output_frame` meets its contract. The invariant: frame t does not begin after output q.
-- Assumes nothing.
use Prim.Native.Nat.{◌+◌, ◌-◌}
use Rattle.circuit.specs.Frames.{NotAfter}
use Rattle.latest.proofs.output_frame.Given as goal

abbrev pub invariant-loop-t : goal.invariant-loop-t
invariant-loop-t l =
    NotAfter l.outputs l.t l.q

abbrev pub decreases-loop-t : goal.decreases-loop-t
decreases-loop-t l =
    l.q + 1 - l.t
