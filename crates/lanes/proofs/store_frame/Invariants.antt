-- `lanes::store_frame` meets its contract. The invariant: the lanes of the first k inputs of the frame are stored too, and the gates before `least`
-- are settled.
-- Assumes nothing.
use mathlib.Core.Path.{◌≡◌}
use mathlib.Core.List.{List}
use Prim.Native.Nat.{ℕ, ◌+◌, ◌*◌, ◌-◌, ◌≤◌}
use lib.ListN.{length, get_or}
use Rattle.circuit.specs.Circuit.{all_inputs}
use Rattle.lanes.specs.Lanes.{NumberLanes, InputLanes, Settled, FirstUses}
use Rattle.lanes.proofs.store_frame.Given as goal

abbrev pub invariant-loop-k : goal.invariant-loop-k
invariant-loop-k l =
    (l.k ≤ l.inputs) × (length l.lanes ≡ length l.initial.lanes) × (get_or l.lanes 0 0 ≡ get_or l.initial.lanes 0 0) × (l.least ≤ l.start)
    × ((T : ℕ) (h : ℕ → ℕ) → l.t ≤ T → NumberLanes l.numbers h → InputLanes l.inputs T l.t h ((l.frame - 1) * l.inputs) l.initial.lanes → InputLanes l.inputs T l.t h ((l.frame - 1) * l.inputs + l.k) l.lanes)
    × ((b : List ℕ) → l.frame * l.inputs ≤ all_inputs b → FirstUses b 0 l.firsts → Settled b l.initial.lanes l.start → Settled b l.lanes l.least)
