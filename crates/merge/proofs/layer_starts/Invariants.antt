-- `merge::layer_starts` meets its contract. The invariant: the starts of the layers before t stand, and `start` is that of layer t.
-- Assumes nothing.
use Rattle.merge.proofs.Starting.{Begun}
use Rattle.merge.proofs.layer_starts.Given as goal

abbrev pub invariant-loop-t : goal.invariant-loop-t
invariant-loop-t l =
    Begun l.table l.starts l.start l.t
