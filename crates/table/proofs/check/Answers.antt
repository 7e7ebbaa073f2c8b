-- `table::check` meets its contract: an accepted head gives the others what they require.
-- Assumes nothing.
use Rattle.std.proofs.Common.{sym}
use Rattle.verdict.proofs.Laws.{stop, go_on}
use Rattle.table.specs.Table.{entries_checked, checked}
use Rattle.table.proofs.Accepted.{headed}
use Rattle.table.proofs.check.Goals as goal

pub returns-in_err-check_head-clause-verdict : goal.returns-in_err-check_head-clause-verdict
unfolding checked
returns-in_err-check_head-clause-verdict c = stop _ _ _ _ c.from_residual.ensures.1 c.in_err-check_head.ensures

pub read-layout-requires : goal.read-layout-requires
read-layout-requires c = headed _ _ (sym c.in_ok-check_head.ensures)

pub check_array-requires-clause-table_headed : goal.check_array-requires-clause-table_headed
check_array-requires-clause-table_headed c = headed _ _ (sym c.in_ok-check_head.ensures)

pub returns-in_err-check_array-clause-verdict : goal.returns-in_err-check_array-clause-verdict
unfolding checked entries_checked
returns-in_err-check_array-clause-verdict c =
    go_on _ _ _ _ c.in_ok-check_head.ensures (stop _ _ _ _ c.from_residual-in_err-check_array.ensures.1 c.in_err-check_array.ensures)

pub check_array-requires-2-clause-table_headed : goal.check_array-requires-2-clause-table_headed
check_array-requires-2-clause-table_headed c = headed _ _ (sym c.in_ok-check_head.ensures)

pub returns-clause-verdict : goal.returns-clause-verdict
unfolding checked entries_checked
returns-clause-verdict c = go_on _ _ _ _ c.in_ok-check_head.ensures (go_on _ _ _ _ c.in_ok-check_array.ensures c.check_array-2.ensures)
