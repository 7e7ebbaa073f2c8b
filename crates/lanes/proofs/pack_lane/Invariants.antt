-- `lanes::pack_lane` meets its contract. The invariant: the word so far is that of the signals from k on.
-- Assumes nothing.
use mathlib.Core.Path.{◌≡◌}
use Prim.Native.Nat.{◌+◌, ◌-◌, ◌≤◌}
use lib.ListN.{take, drop}
use Rattle.circuit.specs.Lists.{packed}
use Rattle.lanes.specs.Lanes.{lane}
use Rattle.lanes.proofs.pack_lane.Given as goal

abbrev pub invariant-loop-k : goal.invariant-loop-k
invariant-loop-k l =
    (l.k ≤ l.count) × (l.word ≡ packed (take (l.count - l.k) (drop (l.at + l.k) (lane l.j l.lanes))))
