-- `write::put_nexts` meets its contract. The invariant: the next states of the layers so far are stored.
-- Assumes nothing.
use mathlib.Core.Path.{◌≡◌}
use Prim.Native.Nat.{suc, ◌+◌, ◌*◌, ◌≤◌}
use lib.ListN.{length}
use Rattle.words.specs.Words.{stored}
use Rattle.explore.specs.Explore.{layer_at}
use Rattle.write.proofs.Nexts.{nexts_in}
use Rattle.write.proofs.put_nexts.Given as goal

abbrev pub invariant-loop-t : goal.invariant-loop-t
invariant-loop-t l =
    (l.t ≤ l.last) × (l.from ≡ layer_at l.layout.fan (suc l.t)) × (l.end ≡ l.at + 2 * length (nexts_in l.layout l.scratch l.counts l.t)) × (l.res ≡ stored 2 l.initial.res l.at (nexts_in l.layout l.scratch l.counts l.t))
