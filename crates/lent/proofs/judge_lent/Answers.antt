-- `lent::judge_lent` meets its contract.
-- Assumes nothing.
use mathlib.Core.Path.{sym}
use Rattle.verdict.proofs.Laws.{told}
use Rattle.circuit.proofs.Accepted.{accepted}
use Rattle.lent.proofs.Needed.{needed_is, bits_fit, circuit_refused, scratch_kept, both_judged, scratch_left}
use Rattle.lent.proofs.judge_lent.Goals as goal

pub returns-in_err-check : goal.returns-in_err-check
returns-in_err-check c =
    record {
      verdict = told _ _ _ c.from_residual.ensures.1 (circuit_refused _ c.args.scratch.now _ c.in_err-check.ensures.verdict);
      scratch = scratch_kept _ _ _ c.in_err-check.ensures.verdict;
    }

pub of-source-requires : goal.of-source-requires
of-source-requires c = (accepted _ _ (sym c.in_ok-check.ensures.verdict)).form.head

pub judge_scratch-requires : goal.judge_scratch-requires
judge_scratch-requires c = bits_fit _ c.of-source.result (accepted _ _ (sym c.in_ok-check.ensures.verdict)).form.head c.of-source.ensures.head_is

pub returns : goal.returns
returns c =
    let n = needed_is c.args.circuit.now c.of-source.result c.of-source.ensures.head_is in
    record {
      verdict = both_judged c.args.circuit.now _ _ _ (sym c.in_ok-check.ensures.verdict) _ _ n c.judge_scratch.ensures;
      scratch = scratch_left c.args.circuit.now _ _ _ (sym c.in_ok-check.ensures.verdict) _ _ n c.judge_scratch.ensures;
    }
