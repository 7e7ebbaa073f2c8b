-- `schedule::check_schedule` meets its contract: each stage is the definition's.
-- Assumes nothing.
use mathlib.Core.Path.{sym}
use native.Mathlib.Omega.{arith}
use Rattle.verdict.proofs.Laws.{stop, go_on}
use Rattle.sizes.specs.Limits.{most_inputs}
use Rattle.sizes.proofs.Laws.{sized}
use Rattle.circuit.specs.Circuit.{network_checked}
use Rattle.circuit.proofs.Accepted.{within}
use Rattle.spreading.specs.Spread.{schedule_checked}
use Rattle.schedule.proofs.check_schedule.Goals as goal

pub returns-in_err-check_form : goal.returns-in_err-check_form
unfolding network_checked schedule_checked
returns-in_err-check_form c = stop _ _ _ _ c.from_residual.ensures.1 c.in_err-check_form.ensures

pub returns-in_err-check : goal.returns-in_err-check
unfolding network_checked schedule_checked
returns-in_err-check c =
    go_on _ _ _ _ c.in_ok-check_form.ensures (stop _ _ _ _ c.from_residual-in_err-check.ensures.1 c.in_err-check.ensures)

pub check_lists-requires : goal.check_lists-requires
check_lists-requires c =
    record {
      circuit_headed = (within _ _ _ _ (omega arith) (sym c.in_ok-check_form.ensures)).0;
      sized = sized most_inputs _ _ _ _ (sym c.in_ok-check.ensures);
    }

pub returns : goal.returns
unfolding network_checked schedule_checked
returns c = go_on _ _ _ _ c.in_ok-check_form.ensures (go_on _ _ _ _ c.in_ok-check.ensures c.check_lists.ensures)
