-- `merge::fewest_states` meets its contract. The invariant: no machine of k states or fewer matches.
-- Assumes nothing.
use mathlib.Core.Path.{◌≡◌}
use Prim.Native.Nat.{◌≤◌}
use Rattle.table.specs.Sound.{Sound, layout_of}
use Rattle.merge.proofs.Finding.{Fewer}
use Rattle.merge.proofs.fewest_states.Given as goal

abbrev pub invariant-loop-k : goal.invariant-loop-k
invariant-loop-k l =
    (l.k ≤ 3) × ((Z : Sound l.table) (el : l.layout ≡ layout_of l.table) → Fewer l.table Z l.layout el l.k)
