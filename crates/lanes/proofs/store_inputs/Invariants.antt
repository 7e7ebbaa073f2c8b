-- `lanes::store_inputs` meets its contract. The invariant: the lanes of the constant and of the inputs of the first f frames are stored, and the gates
-- before `start` are settled.
-- Assumes nothing.
use mathlib.Core.Path.{◌≡◌}
use mathlib.Core.List.{List}
use Prim.Native.Nat.{ℕ, ◌*◌, ◌≤◌}
use lib.ListN.{length, get_or}
use Rattle.circuit.specs.Circuit.{all_inputs}
use Rattle.lanes.specs.Lanes.{NumberLanes, InputLanes, Settled, FirstUses}
use Rattle.lanes.proofs.store_inputs.Given as goal

abbrev pub invariant-loop-f : goal.invariant-loop-f
invariant-loop-f l =
    (l.f ≤ l.frames) × (length l.lanes ≡ length l.initial.lanes) × (get_or l.lanes 0 0 ≡ 0) × (l.start ≤ l.initial.start)
    × ((T : ℕ) (h : ℕ → ℕ) → l.t ≤ T → NumberLanes l.numbers h → InputLanes l.head.inputs T l.t h (l.f * l.head.inputs) l.lanes)
    × ((b : List ℕ) → l.frames * l.head.inputs ≡ all_inputs b → FirstUses b 0 l.firsts → Settled b l.initial.lanes l.initial.start → Settled b l.lanes l.start)
