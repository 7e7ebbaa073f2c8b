-- `latest::store_inputs` meets its contract. The invariant: the latest frames of the constant and of inputs 0 to k - 1 of every frame are stored.
-- Assumes nothing.
use mathlib.Core.Path.{◌≡◌}
use Prim.Native.Nat.{◌≤◌}
use lib.ListN.{length}
use Rattle.latest.specs.Latest.{InputsTo}
use Rattle.latest.proofs.store_inputs.Given as goal

abbrev pub invariant-loop-k : goal.invariant-loop-k
invariant-loop-k l =
    (l.k ≤ l.inputs) × (length l.latest ≡ length l.initial.latest) × InputsTo l.inputs l.frames l.k l.latest
