-- `report::append_layers` meets its contract. The invariant: the lines of the layers below t are appended, each of few bytes.
-- Assumes nothing.
use Prim.Native.Nat.{◌+◌, ◌*◌, ◌≤◌}
use Rattle.report.specs.Report.{layer_lines, line_room, Appended}
use Rattle.report.proofs.append_layers.Given as goal

abbrev pub invariant-loop-t : goal.invariant-loop-t
invariant-loop-t l =
    (l.t ≤ l.count) × Appended l.initial.out l.at (layer_lines l.table l.t) l.out l.end × (l.end ≤ l.at + line_room * l.t)
