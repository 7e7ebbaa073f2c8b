-- `table::head::check_counts` meets its contract. The invariant: what the definition says of all counts is what it says of those from t on.
-- Assumes nothing.
use mathlib.Core.Path.{◌≡◌}
use mathlib.Core.Bool.{Bool, ◌||◌, cond}
use mathlib.Core.List.{List}
use Prim.Native.Nat.{ℕ, ◌-◌, ◌≤◌}
use lib.Dec.{eqb}
use Rattle.table.specs.Limits.{end_states, most_states}
use Rattle.verdict.specs.Judgements.{answer, refuse_first}
use Rattle.sizes.specs.Sizes.{frames, outside}
use Rattle.table.specs.Table.{count_at, states, counts_checked}
use Rattle.table.proofs.head.check_counts.Given as goal

-- the count of layer t is out of its limits
abbrev wrong : List ℕ → ℕ → Bool
wrong b t = outside 1 (cond (eqb t 0 || eqb t (frames b)) end_states most_states) (states b t)

abbrev pub invariant-loop-t : goal.invariant-loop-t
invariant-loop-t l =
    (l.t ≤ l.count) × (counts_checked l.table ≡ refuse_first (wrong l.table) 2 count_at (answer 0 0) l.t (l.count - l.t))
