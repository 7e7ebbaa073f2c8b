-- `write::nexts_from` meets its contract. The invariant: the sum of the counts of the layers so far.
-- Assumes nothing.
use mathlib.Core.Path.{◌≡◌}
use Prim.Native.Nat.{◌*◌, ◌≤◌}
use lib.ListN.{get_or}
use Rattle.layered.specs.Search.{total}
use Rattle.write.proofs.nexts_from.Given as goal

abbrev pub invariant-loop-t : goal.invariant-loop-t
invariant-loop-t l =
    (l.t ≤ l.frames) × (l.states ≡ total l.t (λ u. get_or l.counts u 0)) × (l.states ≤ 65535 * l.t)
