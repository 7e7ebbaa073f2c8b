-- `admit::wanted::same_numbers` meets its contract. The invariant: the numbers so far are the plan's.
-- Assumes nothing.
use mathlib.Core.Path.{◌≡◌}
use Prim.Native.Nat.{ℕ, ◌≤◌, ◌<◌}
use lib.ListN.{get_or}
use Rattle.admit.proofs.wanted.same_numbers.Given as goal

abbrev pub invariant-loop-i : goal.invariant-loop-i
invariant-loop-i l =
    (l.i ≤ 21) × ((j : ℕ) → j < l.i → get_or l.numbers j 0 ≡ get_or l.plan j 0)
