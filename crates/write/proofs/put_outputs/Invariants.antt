-- `write::put_outputs` meets its contract. The invariant: all rows before the next one are stored, whatever subject these are the states and diagrams of.
-- Assumes nothing.
use Prim.Native.Nat.{◌-◌}
use lib.ListN.{length}
use Rattle.write.specs.Write.{Writable}
use Rattle.write.proofs.Rows.{Doing}
use Rattle.write.proofs.put_outputs.Given as goal

abbrev pub invariant-loop-writing : goal.invariant-loop-writing
invariant-loop-writing l =
    (W : Writable l.layout l.nodes l.scratch l.fn.work l.counts l.fn.res l.to) → Doing l.layout l.nodes l.scratch l.fn.work l.counts l.fn.res l.to W l.writing l.work l.res

abbrev pub decreases-loop-writing : goal.decreases-loop-writing
decreases-loop-writing l =
    length l.res - l.writing.to
