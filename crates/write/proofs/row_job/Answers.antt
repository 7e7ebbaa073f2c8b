-- `write::row_job` meets its contract.
-- Assumes nothing.
use native.Mathlib.Omega.{arith}
use Rattle.write.proofs.Rows.{RowSafe, row_safe}
use Rattle.write.proofs.row_job.Goals as goal

pub overflow_add-at : goal.overflow_add-at
overflow_add-at c =
    let safe : RowSafe c.args.layout c.args.writing =
    row_safe c.args.layout c.args.writing c.requires.0
    in
    omega (arith, safe)

pub offset_bounds-scratch-at : goal.offset_bounds-scratch-at
offset_bounds-scratch-at c =
    let safe : RowSafe c.args.layout c.args.writing =
    row_safe c.args.layout c.args.writing c.requires.0
    in
    omega (arith, safe)

pub bounds-scratch-at : goal.bounds-scratch-at
bounds-scratch-at c =
    let safe : RowSafe c.args.layout c.args.writing =
    row_safe c.args.layout c.args.writing c.requires.0
    in
    omega (arith, safe, c.requires.1)
