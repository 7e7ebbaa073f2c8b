-- `fold::fold_judged` meets its contract: what each call may be asked, and how the scratch, the records and the result are left.
-- Assumes nothing.
use mathlib.Core.Path.{◌≡◌, refl}
use native.Mathlib.Omega.{arith}
use lib.ListN.{length}
use Rattle.circuit.specs.WellFormed.{HeadOf}
use Rattle.source.specs.Source.{head_of, sourced}
use Rattle.source.proofs.Sources.{well}
use Rattle.survey.specs.Survey.{work_length}
use Rattle.ask.proofs.Answered.{zeros_length}
use Rattle.fold.proofs.Finished.{surveyable, clearable, findings, finishes, cleared_by}
use Rattle.fold.proofs.fold_judged.Goals as goal

pub survey_circuit-found-requires : goal.survey_circuit-found-requires
survey_circuit-found-requires c =
    (c.requires.0, surveyable (sourced c.args.source c.args.circuit.now) c.args.wanted c.args.scratch.now c.args.nodes.now c.args.res.now c.requires.1 _ refl)

pub write_found-verdict-requires : goal.write_found-verdict-requires
write_found-verdict-requires c =
    let long : length c.survey_circuit-found.new.work ≡ work_length = omega (arith, c.survey_circuit-found.auto.work, zeros_length work_length) in
    (c.requires.0, findings (sourced c.args.source c.args.circuit.now) c.args.wanted c.args.scratch.now c.args.nodes.now c.args.res.now c.requires.1 _ _ _ _ c.survey_circuit-found.auto.nodes c.survey_circuit-found.auto.scratch long c.survey_circuit-found.ensures)

pub clear_needed-requires : goal.clear_needed-requires
clear_needed-requires c =
    let O : HeadOf (sourced c.args.source c.args.circuit.now) (head_of c.args.source) = (well _ _ c.requires.0).head_is in
    clearable (sourced c.args.source c.args.circuit.now) c.args.wanted c.args.scratch.now c.args.nodes.now c.args.res.now c.requires.1 c.args.source O _ c.survey_circuit-found.auto.scratch

pub returns : goal.returns
returns c =
    let O : HeadOf (sourced c.args.source c.args.circuit.now) (head_of c.args.source) = (well _ _ c.requires.0).head_is in
    let long : length c.survey_circuit-found.new.work ≡ work_length = omega (arith, c.survey_circuit-found.auto.work, zeros_length work_length) in
    finishes (sourced c.args.source c.args.circuit.now) c.args.wanted c.args.scratch.now c.args.nodes.now c.args.res.now c.requires.1 _ _ _ _ c.survey_circuit-found.auto.nodes c.survey_circuit-found.auto.scratch long c.survey_circuit-found.ensures _ _ c.write_found-verdict.ensures _ c.clear.ensures _ (cleared_by (sourced c.args.source c.args.circuit.now) c.args.source O _ _ c.clear_needed.ensures)
