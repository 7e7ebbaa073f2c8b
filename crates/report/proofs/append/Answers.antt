-- `report::append` meets its contract.
-- Assumes nothing.
use native.Mathlib.Omega.{arith}
use Rattle.report.proofs.Appending.{append_text}
use Rattle.report.proofs.append.Goals as goal

pub returns : goal.returns
returns c = append_text _ _ _ _ _ c.requires (omega arith) c.copy_from_slice.ensures.after
