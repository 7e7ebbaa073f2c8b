-- `report::append_total` meets its contract: its two parts are those of the line.
-- Assumes nothing.
use native.Mathlib.Omega.{arith}
use Rattle.report.specs.Report.{ascii, total_line}
use Rattle.report.proofs.Appending.{append_then}
use Rattle.report.proofs.Lines.{total_length}
use Rattle.report.proofs.append_total.Goals as goal

pub append-end-requires : goal.append-end-requires
append-end-requires c =
    omega (arith, total_length c.args.total)

pub append_field-requires : goal.append_field-requires
append_field-requires c =
    omega (arith, total_length c.args.total)

pub returns : goal.returns
unfolding ascii total_line
returns c =
    append_then c.append-end.ensures c.append_field.ensures
