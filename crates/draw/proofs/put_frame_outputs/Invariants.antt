-- `draw::put_frame_outputs` meets its contract. The invariant: the first j gates are stored.
-- Assumes nothing.
use mathlib.Core.Path.{◌≡◌}
use mathlib.Core.List.{[]}
use Prim.Native.Nat.{◌≤◌}
use Rattle.circuit.specs.Lists.{listed}
use Rattle.chains.specs.Chains.{gates_stored}
use Rattle.draw.proofs.Outputs.{gate_in}
use Rattle.draw.proofs.put_frame_outputs.Given as goal

abbrev pub invariant-loop-j : goal.invariant-loop-j
invariant-loop-j l =
    (l.j ≤ l.count) × (l.res ≡ gates_stored l.target.gates l.k l.initial.res (listed [] (gate_in l.connected l.from l.literals) l.j))
