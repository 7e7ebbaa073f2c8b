-- `lanes::gathered_lanes` meets its contract. The invariant: the number so far has the bits of the histories from j on.
-- Assumes nothing.
use mathlib.Core.Path.{◌≡◌}
use Prim.Native.Nat.{◌-◌, ◌≤◌}
use lib.ListN.{length, take, drop}
use Rattle.circuit.specs.Lists.{packed}
use Rattle.lanes.specs.Lanes.{lane}
use Rattle.lanes.proofs.gathered_lanes.Given as goal

abbrev pub invariant-loop-j : goal.invariant-loop-j
invariant-loop-j l =
    (l.j ≤ length l.histories) × (l.lanes ≡ packed (take (length l.histories - l.j) (drop l.j (lane l.place l.histories))))
