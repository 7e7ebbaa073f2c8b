-- `build::build` meets its contract. The invariant: the first s signals are built, in lists as long as the first.
-- Assumes nothing.
use Prim.Native.Nat.{◌-◌}
use lib.ListN.{length}
use Rattle.source.specs.Source.{sourced}
use Rattle.build.proofs.Loop.{Turning}
use Rattle.build.proofs.build.Given as goal

abbrev pub invariant-loop-s : goal.invariant-loop-s
invariant-loop-s l =
    Turning (sourced l.source l.circuit) l.shape.room (length l.fn.nodes) (length l.fn.work) l.s l.nodes l.work
