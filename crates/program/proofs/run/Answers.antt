-- `program::run` meets its contract: what folding answered picks the lines.
-- Assumes nothing.
use mathlib.Core.Path.{refl}
use native.Mathlib.Omega.{arith}
use Rattle.program.proofs.Runs.{prints_refusal, within, part_length, head_passes, prints_table}
use Rattle.program.proofs.run.Goals as goal

pub slice_bounds-result-end : goal.slice_bounds-result-end
slice_bounds-result-end c = within c.args.input.now _ c.in-Ok.ensures.verdict _ c.fold_here.auto.res

pub slice_bounds-append_table-end : goal.slice_bounds-append_table-end
slice_bounds-append_table-end c = part_length _ _ (within c.args.input.now _ c.in-Ok.ensures.verdict _ c.fold_here.auto.res)

pub append_table-requires : goal.append_table-requires
append_table-requires c =
    record {
      lines_room_in_bounds = c.requires;
      table_headed = head_passes c.args.input.now _ c.in-Ok.ensures.verdict _ c.in-Ok.ensures.promised;
    }

pub returns-in-Ok : goal.returns-in-Ok
returns-in-Ok c =
    let p = prints_table c.args.input.now _ c.in-Ok.ensures.verdict _ refl _ c.in-Ok.ensures.res c.append_table.ensures in
    record { count = p.0; lines = p.1.0; within = p.1.1 }

pub returns-in-Err : goal.returns-in-Err
returns-in-Err c =
    let p = prints_refusal c.args.input.now _ c.in-Err.ensures.verdict _ c.from-number.ensures c.append_refusal.ensures in
    record { count = p.0; lines = p.1.0; within = p.1.1 }
