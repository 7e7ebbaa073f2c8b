-- `schedule::first_repeated` meets its contract. The invariant: no item before item k is the same as an earlier one.
-- Assumes nothing.
use mathlib.Core.Path.{◌≡◌}
use mathlib.Core.Bool.{false}
use Prim.Native.Nat.{ℕ, ◌≤◌, ◌<◌}
use lib.ListN.{length}
use Rattle.spreading.specs.Spread.{is_repeated}
use Rattle.schedule.proofs.first_repeated.Given as goal

abbrev pub invariant-loop-k : goal.invariant-loop-k
invariant-loop-k l =
    (l.k ≤ length l.list) × ((i : ℕ) → i < l.k → is_repeated l.list i ≡ false)
