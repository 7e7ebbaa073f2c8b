-- `distinguish::shortest_list` meets its contract. The invariant: no list of 1 to k words separates the states, and there are `rest` of k words.
-- Assumes nothing.
use mathlib.Core.Path.{◌≡◌}
use Prim.Native.Nat.{◌^◌, ◌≤◌}
use Rattle.sizes.specs.Sizes.{inputs}
use Rattle.table.specs.Table.{machine}
use Rattle.distinguish.proofs.Separating.{NoneOf}
use Rattle.distinguish.proofs.shortest_list.Given as goal

abbrev pub invariant-loop-k : goal.invariant-loop-k
invariant-loop-k l =
    (l.k ≤ l.left) × (l.rest ≡ (2 ^ inputs l.table) ^ l.k) × NoneOf (machine l.table) (2 ^ inputs l.table) l.pair.layer l.pair.first l.pair.second l.k
