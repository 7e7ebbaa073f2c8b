-- `circuit::first_unconnected` meets its contract. The invariant: no gate before g is an unconnected output.
-- Assumes nothing.
use mathlib.Core.Path.{◌≡◌}
use mathlib.Core.Bool.{false}
use Prim.Native.Nat.{ℕ, ◌≤◌, ◌<◌}
use Rattle.circuit.specs.Circuit.{unconnected}
use Rattle.circuit.proofs.first_unconnected.Given as goal

abbrev pub invariant-loop-g : goal.invariant-loop-g
invariant-loop-g l =
    (l.first ≤ l.g) × (l.g ≤ l.count) × ((i : ℕ) → i < l.g → unconnected l.circuit i ≡ false)
