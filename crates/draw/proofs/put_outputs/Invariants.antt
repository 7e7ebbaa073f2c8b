-- `draw::put_outputs` meets its contract. The invariant: the gates of the first t frames are stored.
-- Assumes nothing.
use mathlib.Core.Path.{◌≡◌}
use mathlib.Core.List.{[]}
use Prim.Native.Nat.{◌*◌, ◌≤◌}
use Rattle.sizes.specs.Sizes.{outputs}
use Rattle.circuit.specs.Lists.{listed}
use Rattle.chains.specs.Chains.{gates_stored}
use Rattle.draw.proofs.Outputs.{gate_of}
use Rattle.draw.proofs.put_outputs.Given as goal

abbrev pub invariant-loop-t : goal.invariant-loop-t
invariant-loop-t l =
    (l.t ≤ l.last) × (l.res ≡ gates_stored l.target.gates l.k l.initial.res (listed [] (gate_of l.table l.literals) (outputs l.table * l.t)))
