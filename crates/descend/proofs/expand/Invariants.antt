use Rattle.std.proofs.Common.{◌-◌}
use Rattle.descend.specs.Descend.{Expandable}
use Rattle.descend.proofs.Laws.{Going}
use Rattle.descend.proofs.expand.Given as goal

-- the cursor's word and how many bits it has, and what the list holds there
abbrev pub invariant-loop-c : goal.invariant-loop-c
invariant-loop-c l = (p : Expandable l.nodes l.fn.work l.f l.spread) → Going l.nodes l.fn.work l.f l.spread p l.c l.work

abbrev pub decreases-loop-c : goal.decreases-loop-c
decreases-loop-c l = l.spread.size - l.c.count
