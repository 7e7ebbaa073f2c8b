-- `run::run` meets its contract: the table, then the words and the room are judged, and through a mask of all ones a run shows every bit.
-- Assumes nothing.
use Rattle.std.proofs.Common.{◌≡◌, refl, sym, ap, ◌∙◌, ◌≤◌, length, arith}
use Rattle.std.specs.Prelude.{Err}
use Rattle.verdict.specs.Judgements.{answer}
use Rattle.verdict.specs.declared.Figures.{Figures}
use Rattle.verdict.proofs.Laws.{stop, told, go_on}
use Rattle.sizes.specs.Sizes.{inputs, frames as frames_of, sequence_checked}
use Rattle.sizes.specs.Sized.{Fed}
use Rattle.sizes.specs.declared.Sizes.{Sizes}
use Rattle.sizes.proofs.Laws.{fed}
use Rattle.table.proofs.Offsets.{arrays_stand}
use Rattle.table.proofs.Accepted.{sound, accepted_at}
use Rattle.run.specs.Run.{ran}
use Rattle.run.proofs.Runs.{run_kept, run_left}
use Rattle.run.proofs.run.Goals as goal
use Rattle.run.proofs.run.Goals.{After-check_sequence, In_ok-check_sequence}

-- the judgement of the words is the verdict
judged : (c : After-check_sequence) (f : Figures) → f ≡ sequence_checked c.read-sizes.result.inputs c.read-sizes.result.frames c.args.words.now (length c.args.res.now)
    → f ≡ ran c.args.table.now c.args.words.now (length c.args.res.now)
unfolding ran
judged c f e =
    go_on _ _ _ _ c.in_ok-check.ensures.verdict (e ∙ ap (λ (s : Sizes). sequence_checked s.inputs s.frames c.args.words.now (length c.args.res.now)) c.read-sizes.ensures)

-- an accepted sequence is one of the table's
fed_here : (c : In_ok-check_sequence) → Fed (inputs c.args.table.now) (frames_of c.args.table.now) c.args.words.now × (frames_of c.args.table.now ≤ length c.args.res.now)
    × (c.in_ok-check_sequence.field-0 ≡ frames_of c.args.table.now)
fed_here c =
    fed _ _ c.args.words.now (length c.args.res.now) _
    (sym (c.in_ok-check_sequence.ensures ∙ ap (λ (s : Sizes). sequence_checked s.inputs s.frames c.args.words.now (length c.args.res.now)) c.read-sizes.ensures))

pub returns-in_err-check-clause-verdict : goal.returns-in_err-check-clause-verdict
unfolding ran
returns-in_err-check-clause-verdict c = stop _ _ _ _ c.from_residual.ensures.1 c.in_err-check.ensures.verdict

pub returns-in_err-check-clause-outputs : goal.returns-in_err-check-clause-outputs
unfolding ran
returns-in_err-check-clause-outputs c = let r = c.in_err-check.field-0.0 in run_kept _ _ _ _ (stop (Err r) r _ _ refl c.in_err-check.ensures.verdict)

pub read-sizes-requires : goal.read-sizes-requires
read-sizes-requires c = omega (arith, (sound _ _ (sym c.in_ok-check.ensures.verdict)).headed.whole, arrays_stand c.args.table.now)

pub check_sequence-requires : goal.check_sequence-requires
check_sequence-requires c =
    omega (arith, ap (λ (s : Sizes). s.inputs) c.read-sizes.ensures, (sound _ _ (sym c.in_ok-check.ensures.verdict)).headed.sized)

pub returns-in_err-check_sequence-clause-verdict : goal.returns-in_err-check_sequence-clause-verdict
returns-in_err-check_sequence-clause-verdict c =
    told _ _ _ c.from_residual-in_err-check_sequence.ensures.1 (judged (goal.at.returns-in_err-check_sequence-clause-verdict c).After-check_sequence _ c.in_err-check_sequence.ensures)

pub returns-in_err-check_sequence-clause-outputs : goal.returns-in_err-check_sequence-clause-outputs
returns-in_err-check_sequence-clause-outputs c =
    run_kept _ _ _ _ (judged (goal.at.returns-in_err-check_sequence-clause-outputs c).After-check_sequence _ c.in_err-check_sequence.ensures)

pub run_masked-requires : goal.run_masked-requires
run_masked-requires c =
    let f = fed_here (goal.at.run_masked-requires c).In_ok-check_sequence in
    record { table_value = accepted_at _ _ (sym c.in_ok-check.ensures.verdict); fed = f.0; table_in_bounds = f.1 }

pub returns-clause-verdict : goal.returns-clause-verdict
returns-clause-verdict c =
    let at = goal.at.returns-clause-verdict c in
    c.run_masked.ensures.verdict ∙ ap (answer 0) (sym (fed_here at.In_ok-check_sequence).2) ∙ judged at.After-check_sequence _ c.in_ok-check_sequence.ensures

pub returns-clause-outputs : goal.returns-clause-outputs
returns-clause-outputs c =
    let at = goal.at.returns-clause-outputs c in
    let f = fed_here at.In_ok-check_sequence in
    run_left _ _ _ (sound _ _ (sym c.in_ok-check.ensures.verdict)) f.0 _ (ap (answer 0) (sym f.2) ∙ judged at.After-check_sequence _ c.in_ok-check_sequence.ensures) c.run_masked.ensures.outputs
