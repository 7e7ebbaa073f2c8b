-- `reach::store_head` meets its contract. The invariant: T and the counts so far are stored.
-- Assumes nothing.
use mathlib.Core.Path.{◌≡◌}
use Prim.Native.Nat.{◌≤◌}
use Rattle.words.specs.Words.{stored}
use Rattle.layered.specs.Search.{tabulate}
use Rattle.table.specs.Table.{states}
use Rattle.reach.proofs.store_head.Given as goal

abbrev pub invariant-loop-t : goal.invariant-loop-t
invariant-loop-t l =
    (l.t ≤ l.count) × (l.res ≡ stored 2 l.initial.res 2 (tabulate l.t (states l.table)))
