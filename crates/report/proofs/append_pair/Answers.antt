-- `report::append_pair` meets its contract: its two fields are those of the line.
-- Assumes nothing.
use native.Mathlib.Omega.{arith}
use Rattle.report.specs.Report.{pair_line}
use Rattle.report.proofs.Appending.{append_then}
use Rattle.report.proofs.Lines.{pair_length}
use Rattle.report.proofs.append_pair.Goals as goal

pub append_field-end-requires : goal.append_field-end-requires
append_field-end-requires c =
    omega (arith, pair_length c.args.first c.args.second)

pub append_field-requires : goal.append_field-requires
append_field-requires c =
    omega (arith, pair_length c.args.first c.args.second)

pub returns : goal.returns
unfolding pair_line
returns c =
    append_then c.append_field-end.ensures c.append_field.ensures
