-- `refine::row_hash` meets its contract. The invariant: `hash` is that of the parts so far.
-- Assumes nothing.
use mathlib.Core.Path.{◌≡◌}
use Prim.Native.Nat.{◌+◌, ◌-◌, ◌≤◌}
use lib.ListN.{get_or}
use Rattle.refine.specs.Buckets.{hash_to}
use Rattle.refine.proofs.row_hash.Given as goal

abbrev pub invariant-loop-i : goal.invariant-loop-i
invariant-loop-i l =
    (l.i ≤ l.parts) × (l.hash ≡ hash_to (get_or l.scratch (l.copy + l.c) 0) (λ i'. get_or l.work (l.row + i') 0) l.i)

abbrev pub decreases-loop-i : goal.decreases-loop-i
decreases-loop-i l =
    l.parts - l.i
