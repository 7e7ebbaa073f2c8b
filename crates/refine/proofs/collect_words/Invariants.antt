-- `refine::collect_words` meets its contract. The invariant: the paths of the candidates so far are stored, and `next` is the next number.
-- Assumes nothing.
use Prim.Native.Nat.{◌+◌, ◌*◌, ◌-◌, ◌≤◌}
use Rattle.refine.specs.Collecting.{Collecting}
use Rattle.refine.proofs.collect_words.Given as goal

abbrev pub invariant-loop-w : goal.invariant-loop-w
invariant-loop-w l =
    (l.w ≤ l.fan) × Collecting l.initial.scratch l.scratch l.rows l.from l.fan l.bits (l.state * l.fan + l.w) l.next

abbrev pub decreases-loop-w : goal.decreases-loop-w
decreases-loop-w l =
    l.fan - l.w
