-- `schedule::judge_spread` meets its contract: each stage is the definition's.
-- Assumes nothing.
use mathlib.Core.Path.{sym, ap, ◌∙◌}
use Rattle.verdict.specs.declared.Figures.{Figures}
use Rattle.verdict.proofs.Laws.{told, refusal_number}
use Rattle.circuit.specs.Circuit.{look_ahead_checked}
use Rattle.source.proofs.Sources.{well}
use Rattle.lent.proofs.Needed.{needed_is, bits_fit}
use Rattle.folded.specs.Folded.{scratch_needed}
use Rattle.schedule.proofs.Spread.{schedule_refused, scratch_kept, ahead_refused, lent_judged, lent_left}
use Rattle.schedule.proofs.judge_spread.Goals as goal

pub returns-in_err-check_schedule : goal.returns-in_err-check_schedule
returns-in_err-check_schedule c =
    let e = schedule_refused _ _ _ _ _ _ c.args.scratch.now _ c.in_err-check_schedule.ensures in
    record {
      verdict = told _ _ _ c.from_residual.ensures.1 e;
      scratch = scratch_kept _ _ _ _ _ _ _ _ e (refusal_number c.in_err-check_schedule.field-0.0);
    }

pub spread_source-source-requires : goal.spread_source-source-requires
spread_source-source-requires c = ap (λ (f : Figures). f.number) (sym c.in_ok-check_schedule.ensures)

pub returns-in_err-check_look_ahead : goal.returns-in_err-check_look_ahead
returns-in_err-check_look_ahead c =
    let n = refusal_number c.in_err-check_look_ahead.field-0.0 in
    let e = ahead_refused _ _ _ _ _ _ c.args.scratch.now _ (sym c.in_ok-check_schedule.ensures) _ (c.in_err-check_look_ahead.ensures ∙ ap look_ahead_checked c.spread_source-source.ensures.1) n in
    record {
      verdict = told _ _ _ c.from_residual-in_err-check_look_ahead.ensures.1 e;
      scratch = scratch_kept _ _ _ _ _ _ _ _ e n;
    }

pub judge_scratch-requires : goal.judge_scratch-requires
judge_scratch-requires c =
    let W = well _ _ c.spread_source-source.ensures.0 in
    bits_fit _ c.spread_source-source.result W.headed W.head_is

pub returns : goal.returns
returns c =
    let p = sym c.in_ok-check_schedule.ensures in
    let a = sym (c.in_ok-check_look_ahead.ensures ∙ ap look_ahead_checked c.spread_source-source.ensures.1) in
    let n = needed_is _ c.spread_source-source.result (well _ _ c.spread_source-source.ensures.0).head_is ∙ ap scratch_needed c.spread_source-source.ensures.1 in record {
      verdict = lent_judged _ _ _ _ _ _ c.args.scratch.now _ p _ a c.judge_scratch.result _ n _ c.judge_scratch.ensures;
      scratch = lent_left _ _ _ _ _ _ c.args.scratch.now _ p _ a c.judge_scratch.result _ n _ c.judge_scratch.ensures;
    }
