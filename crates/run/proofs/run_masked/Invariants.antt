-- `run::run_masked` meets its contract. The invariant: the position is a state of layer t, and what the masked machine gives on all words is what
-- is stored and then what it gives from there on the rest. No step is refused.
-- Assumes nothing.
use mathlib.Core.Path.{◌≡◌}
use mathlib.Core.List.{List, ◌++◌}
use Prim.Native.Nat.{ℕ, ◌≤◌, ◌<◌}
use lib.ListN.{length, take, drop}
use Rattle.layered.specs.Machines.{Machine, masked, feed}
use Rattle.table.specs.Table.{states, machine}
use Rattle.run.specs.Run.{shown}
use Rattle.run.proofs.run_masked.Given as goal

-- the table as it is seen through the mask
abbrev seen : List ℕ → (mask : ℕ) → Machine
seen table mask = masked (λ _. mask) (machine table)

abbrev pub invariant-loop-t : goal.invariant-loop-t
invariant-loop-t l =
    (l.t ≤ length l.words) × (length l.res ≡ length l.initial.res) × (l.position.layer ≡ l.t) × (l.position.state < states l.table l.t)
    × (shown l.table l.mask l.words ≡ take l.t l.res ++ feed (seen l.table l.mask) l.t l.position.state (drop l.t l.words)) × (drop l.t l.res ≡ drop l.t l.initial.res)
