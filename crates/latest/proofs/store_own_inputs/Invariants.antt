-- `latest::store_own_inputs` meets its contract. The invariant: the latest frames of the constant and the first i inputs are stored.
-- Assumes nothing.
use mathlib.Core.Path.{◌≡◌}
use Prim.Native.Nat.{◌+◌, ◌≤◌}
use lib.ListN.{length, take}
use Rattle.latest.proofs.Laws.{placed}
use Rattle.latest.proofs.store_own_inputs.Given as goal

abbrev pub invariant-loop-i : goal.invariant-loop-i
invariant-loop-i l =
    (l.i ≤ l.count) × (length l.latest ≡ length l.initial.latest) × (take (1 + l.i) l.latest ≡ placed l.source l.i)
