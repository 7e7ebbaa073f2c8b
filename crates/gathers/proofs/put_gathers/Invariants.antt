-- `gathers::put_gathers` meets its contract. The invariant: the first i chains are stored, and what they end with is kept.
-- Assumes nothing.
use mathlib.Core.Path.{◌≡◌}
use Prim.Native.Nat.{◌+◌, ◌≤◌}
use lib.ListN.{length, take}
use Rattle.chains.specs.Chains.{gates_stored}
use Rattle.gathers.specs.Gathers.{gather_gates, gather_literals}
use Rattle.gathers.proofs.put_gathers.Given as goal

abbrev pub invariant-loop-i : goal.invariant-loop-i
invariant-loop-i l =
    (l.i ≤ l.count) × (l.end ≡ l.k + length (gather_gates l.target l.gathering l.entries l.k l.i)) × (l.res ≡ gates_stored l.target.gates l.k l.initial.res (gather_gates l.target l.gathering l.entries l.k l.i))
    × (length l.literals ≡ l.count) × (take l.i l.literals ≡ gather_literals l.target l.gathering l.entries l.k l.i)
