-- `refine::seek` meets its contract. The invariants: what is passed of the bucket is not the same as c; the parts of g's and c's rows so far are
-- equal.
-- Assumes nothing.
use mathlib.Core.Path.{◌≡◌}
use Prim.Native.Nat.{ℕ, ◌+◌, ◌-◌, ◌≤◌, ◌<◌}
use lib.ListN.{get_or}
use Rattle.refine.specs.Buckets.{test_in, hash_in}
use Rattle.refine.proofs.Buckets.{Walk}
use Rattle.refine.proofs.seek.Given as goal

abbrev pub invariant-loop-i : goal.invariant-loop-i
invariant-loop-i l =
    (l.i ≤ l.parts) × ((j : ℕ) → j < l.i → get_or l.work (l.other + j) 0 ≡ get_or l.work (l.row + j) 0)

abbrev pub decreases-loop-i : goal.decreases-loop-i
decreases-loop-i l =
    l.parts - l.i

abbrev pub invariant-earlier : goal.invariant-earlier
invariant-earlier l =
    Walk (test_in l.scratch l.work l.rows l.c) (hash_in l.scratch l.work l.rows l.c) l.c l.rest

abbrev pub decreases-earlier : goal.decreases-earlier
decreases-earlier l =
    l.rest
