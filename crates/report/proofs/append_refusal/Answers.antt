-- `report::append_refusal` meets its contract.
-- Assumes nothing.
use Prim.Native.Char.{code}
use native.Mathlib.Omega.{arith}
use Rattle.report.specs.Report.{ascii, refusal_line}
use Rattle.report.proofs.Appending.{append_then}
use Rattle.report.proofs.Lines.{pair_length, field_most}
use Rattle.report.proofs.append_refusal.Goals as goal

pub append_pair-requires : goal.append_pair-requires
append_pair-requires c =
    omega (arith, pair_length c.args.number c.args.place, field_most 19 c.args.number (code " ") (omega arith), field_most 19 c.args.place (code "\n") (omega arith))

pub returns : goal.returns
unfolding ascii refusal_line
returns c =
    append_then c.append-end.ensures c.append_pair.ensures
