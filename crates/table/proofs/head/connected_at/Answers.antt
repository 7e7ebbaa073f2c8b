-- `table::head::connected_at` meets its contract.
-- Assumes nothing.
use native.Mathlib.Omega.{arith}
use Rattle.table.proofs.Offsets.{connected-at}
use Rattle.table.proofs.head.connected_at.Goals as goal

pub returns : goal.returns
returns c =
    omega (arith, connected-at c.args.frames c.args.t)
