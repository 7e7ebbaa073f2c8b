-- `lanes::first_uses` meets its contract. The invariant: what is noted holds of the gates from g on.
-- Assumes nothing.
use mathlib.Core.Path.{◌≡◌}
use Prim.Native.Nat.{◌+◌, ◌≤◌}
use lib.ListN.{length}
use Rattle.sizes.specs.Limits.{most_bits}
use Rattle.circuit.specs.Circuit.{gates}
use Rattle.lanes.specs.Lanes.{FirstUses}
use Rattle.lanes.proofs.first_uses.Given as goal

abbrev pub invariant-loop-g : goal.invariant-loop-g
invariant-loop-g l =
    (l.g ≤ gates l.circuit) × (length l.firsts ≡ 1 + most_bits) × FirstUses l.circuit l.g l.firsts
