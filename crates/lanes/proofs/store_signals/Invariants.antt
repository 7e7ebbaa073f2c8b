-- `lanes::store_signals` meets its contract. The invariant: the lanes of the inputs are stored, and the gates before g are settled.
-- Assumes nothing.
use mathlib.Core.Path.{◌≡◌}
use Prim.Native.Nat.{ℕ, ◌≤◌}
use lib.ListN.{length, get_or}
use Rattle.circuit.specs.Limits.{most_signals}
use Rattle.lanes.specs.Lanes.{NumberLanes, Lanes, Settled}
use Rattle.lanes.proofs.Laws.{inputs_of}
use Rattle.lanes.proofs.store_signals.Given as goal

abbrev pub invariant-loop-g : goal.invariant-loop-g
invariant-loop-g l =
    (l.g ≤ l.count) × (most_signals ≤ length l.lanes) × (length l.lanes ≡ length l.initial.lanes) × (get_or l.lanes 0 0 ≡ 0)
    × ((h : ℕ → ℕ) → NumberLanes l.numbers h → Lanes l.lanes l.base (inputs_of l.circuit l.t h)) × Settled l.circuit l.lanes l.g
