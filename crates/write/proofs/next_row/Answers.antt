-- `write::next_row` meets its contract.
-- Assumes nothing.
use native.Mathlib.Omega.{arith}
use Rattle.write.proofs.Rows.{RowSafe, row_safe, row_same, row_more}
use Rattle.write.proofs.next_row.Goals as goal

pub returns-then-state-writing : goal.returns-then-state-writing
returns-then-state-writing c =
    row_same c.args.layout c.args.counts.now c.args.writing (omega arith)

pub returns : goal.returns
returns c =
    row_more c.args.layout c.args.counts.now c.args.writing (omega arith)

pub overflow_add-state : goal.overflow_add-state
overflow_add-state c =
    let safe : RowSafe c.args.layout c.args.writing =
    row_safe c.args.layout c.args.writing c.requires.0
    in
    omega (arith, safe)

pub overflow_mul-result : goal.overflow_mul-result
overflow_mul-result c =
    let safe : RowSafe c.args.layout c.args.writing =
    row_safe c.args.layout c.args.writing c.requires.0
    in
    omega (arith, safe)

pub overflow_add-result : goal.overflow_add-result
overflow_add-result c =
    let safe : RowSafe c.args.layout c.args.writing =
    row_safe c.args.layout c.args.writing c.requires.0
    in
    omega (arith, safe)
