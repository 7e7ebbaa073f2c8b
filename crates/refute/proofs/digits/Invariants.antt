-- `refute::digits` meets its contract. The invariant: the digits from i on are stored, and `rest` holds the others.
-- Assumes nothing.
use mathlib.Core.Path.{◌≡◌}
use Prim.Native.Nat.{ℕ, ◌-◌, ◌/◌, ◌^◌, ◌≤◌, ◌<◌}
use lib.ListN.{length, get_or}
use Rattle.merged.specs.Merged.{digit_of}
use Rattle.refute.proofs.digits.Given as goal

abbrev pub invariant-loop-i : goal.invariant-loop-i
invariant-loop-i l =
    (l.i ≤ l.entries) × (l.rest ≡ l.c / l.states ^ (l.entries - l.i)) × ((e : ℕ) → l.i ≤ e → e < l.entries → get_or l.chosen e 0 ≡ digit_of l.states l.entries l.c e) × (length l.chosen ≡ 12)
