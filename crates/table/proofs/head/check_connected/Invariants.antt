-- `table::head::check_connected` meets its contract. The invariant: what the definition says of all frames is what it says of those from t on.
-- Assumes nothing.
use mathlib.Core.Path.{◌≡◌}
use mathlib.Core.Bool.{Bool}
use mathlib.Core.List.{List}
use Prim.Native.Nat.{ℕ, ◌-◌, ◌^◌, ◌≤◌}
use lib.Dec.{leb}
use Rattle.verdict.specs.Judgements.{answer, refuse_first}
use Rattle.sizes.specs.Sizes.{outputs, frames}
use Rattle.table.specs.Table.{connected_at, connected, connected_checked}
use Rattle.table.proofs.head.check_connected.Given as goal

-- the connected outputs of the frame from layer t are not among the m
abbrev wrong : List ℕ → ℕ → Bool
wrong b t = leb (2 ^ outputs b) (connected b t)

abbrev pub invariant-loop-t : goal.invariant-loop-t
invariant-loop-t l =
    (l.t ≤ l.last) × (connected_checked l.table ≡ refuse_first (wrong l.table) 2 (connected_at (frames l.table)) (answer 0 0) l.t (l.last - l.t))
