use Rattle.explore.specs.Explore.{Explorable, steps_left}
use Rattle.explore.proofs.Drive.{Reached}
use Rattle.explore.proofs.explore.Given as goal

-- how far it has come: the scratch and the work room as they were became those of now, and it stands at the cursor
abbrev pub invariant-loop-cursor : goal.invariant-loop-cursor
invariant-loop-cursor l =
    (pre : Explorable l.layout l.nodes l.fn.scratch l.fn.work) → Reached l.layout l.nodes l.fn.scratch l.fn.work pre l.scratch l.work l.cursor

abbrev pub decreases-loop-cursor : goal.decreases-loop-cursor
decreases-loop-cursor l = steps_left l.layout l.cursor
