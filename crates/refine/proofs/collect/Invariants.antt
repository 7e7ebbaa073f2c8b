-- `refine::collect` meets its contract. The invariant: the paths of the candidates of the states so far are stored.
-- Assumes nothing.
use Prim.Native.Nat.{◌*◌, ◌-◌, ◌≤◌}
use Rattle.refine.specs.Collecting.{Collecting}
use Rattle.refine.proofs.collect.Given as goal

abbrev pub invariant-loop-state : goal.invariant-loop-state
invariant-loop-state l =
    (l.state ≤ l.states) × Collecting l.initial.scratch l.scratch l.rows l.from l.fan l.bits (l.state * l.fan) l.fresh

abbrev pub decreases-loop-state : goal.decreases-loop-state
decreases-loop-state l =
    l.states - l.state
