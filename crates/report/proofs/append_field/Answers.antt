-- `report::append_field` meets its contract.
-- Assumes nothing.
use native.Mathlib.Omega.{arith}
use Rattle.report.specs.Report.{field}
use Rattle.report.proofs.Appending.{append_then, append_byte}
use Rattle.report.proofs.Lines.{field_length}
use Rattle.report.proofs.append_field.Goals as goal

pub append_number-end-requires : goal.append_number-end-requires
append_number-end-requires c =
    omega (arith, field_length c.args.number c.args.mark)

pub bounds-out-end : goal.bounds-out-end
bounds-out-end c =
    omega (arith, field_length c.args.number c.args.mark)

pub returns : goal.returns
unfolding field
returns c =
    append_then c.append_number-end.ensures (append_byte _ _ _ (omega (arith, field_length c.args.number c.args.mark)))
