-- `table::head::states_below` meets its contract. The invariant: the sum is that of the layers below t, and small.
-- Assumes nothing.
use mathlib.Core.Path.{◌≡◌}
use Prim.Native.Nat.{◌*◌, ◌≤◌}
use Rattle.table.specs.Table.{states_below}
use Rattle.table.proofs.head.states_below.Given as goal

abbrev pub invariant-loop-t : goal.invariant-loop-t
invariant-loop-t l =
    (l.t ≤ l.layer) × (l.states ≡ states_below l.table l.t) × (l.states ≤ 65536 * l.t)
