-- `counting::gates_needed` meets its contract. The invariant: what the output gates and the first t frames need is added up.
-- Assumes nothing.
use mathlib.Core.Path.{◌≡◌}
use Prim.Native.Nat.{◌+◌, ◌*◌, ◌≤◌}
use Rattle.layered.specs.Search.{total}
use Rattle.unfolded.specs.Counted.{frame_needs}
use Rattle.counting.proofs.gates_needed.Given as goal

abbrev pub invariant-loop-t : goal.invariant-loop-t
invariant-loop-t l =
    (l.t ≤ l.frames) × (l.gates ≡ total l.t (frame_needs l.table) + l.sizes.outputs * l.frames) × (l.gates ≤ 256 + 536870912 * l.t)
