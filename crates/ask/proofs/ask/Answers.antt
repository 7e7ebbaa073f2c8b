-- `ask::ask` meets its contract: the judgement's outcomes, the survey of the circuit as it stands, and what is left after it, by proofs/Answered.
-- Assumes nothing.
use mathlib.Core.Path.{◌≡◌, refl, subst, ◌∙◌}
use mathlib.Core.List.{List}
use Prim.Native.Nat.{ℕ, ◌*◌, ◌^◌}
use lib.ListN.{length, replicate}
use Rattle.std.specs.Prelude.{Ok, Err, IsErrAnd}
use Rattle.verdict.specs.Judgements.{answer}
use Rattle.verdict.specs.declared.Refusal.{Refusal}
use Rattle.nodes.specs.declared.Node.{Node}
use Rattle.records.specs.Records.{none}
use Rattle.source.specs.Source.{sourced, WholeOf, SourceOf}
use Rattle.source.specs.declared.Source.{Source}
use Rattle.source.proofs.Sources.{sourced_whole}
use Rattle.survey.specs.Survey.{Survey, work_length, Surveyable, Surveyed}
use Rattle.folded.specs.Folded.{scratch_checked, cleared_to, scratch_after, nodes_after}
use Rattle.circuit.specs.WellFormed.{Accepted}
use Rattle.folded.specs.Planned.{folded_plan, asked}
use Rattle.ask.specs.declared.plan.Plan.{Plan}
use Rattle.ask.specs.Plan.{Asked, Counted, plan_numbers, ask_numbers}
use Rattle.ask.proofs.Answered as law
use Rattle.ask.proofs.ask.Goals as goal

-- b is the circuit, s the scratch, ys the records; the judgement accepts and leaves s₁, and h is the source of the circuit
module _ (b s : List ℕ) (ys : List Node) (p : ℕ) (V : answer 0 p ≡ scratch_checked b (length s)) (s₁ : List ℕ) (l₁ : length s₁ ≡ length s) (left : s₁ ≡ scratch_after b s) (h : Source) (O : WholeOf b h) where
  surveyable : (ws : List ℕ) → ws ≡ replicate work_length 0 → SourceOf b h × Surveyable (sourced h b) s₁ ws
  surveyable ws e = law.sourced_survey b h s₁ ws (law.headed_all b s ys p V) O (law.surveyable b s ys p V s₁ l₁ left ws e)

  -- after the survey
  module _ (ns : List Node) (s₂ ws : List ℕ) (found : Survey) (l₂ : length s₂ ≡ length s₁) (S : Surveyed (sourced h b) (length ys) ns s₁ s₂ ws found) where
    l : length s₂ ≡ length s
    l = l₂ ∙ l₁

    -- what is surveyed of the source is surveyed of the circuit
    its : Surveyed b (length ys) ns s₁ s₂ ws found
    its = subst (λ b. Surveyed b (length ys) ns s₁ s₂ ws found) (sourced_whole b h O.whole_is) S

    -- 18, or the plan
    short : (r : Refusal) → found ≡ Err r → (a : Asked) → IsErrAnd a (λ y. y ≡ r) → ask_numbers a ≡ asked b (length s) (length ys)
    short = law.short b s ys p V s₁ l₁ left ns s₂ ws found l its h O

    plannable : (counts : List ℕ) → found ≡ Ok counts → SourceOf b h × Accepted (sourced h b) × Counted (sourced h b) counts
    plannable = law.plannable b s ys p V s₁ l₁ left ns s₂ ws found l its h O

    planned : (counts : List ℕ) → found ≡ Ok counts → (plan : Plan) → plan_numbers plan ≡ folded_plan (sourced h b) → ask_numbers (Ok plan) ≡ asked b (length s) (length ys)
    planned = law.planned b s ys p V s₁ l₁ left ns s₂ ws found l its h O

    scratch_left : (s₃ : List ℕ) → s₃ ≡ cleared_to (2 * 2 ^ (h.inputs * h.frames)) s₂ → s₃ ≡ scratch_after b s
    scratch_left s₃ e = law.left_cleared b s ys p V s₁ l₁ left ns s₂ ws found l its s₃ (law.cleared_is b h O s₂ s₃ e)

    nodes_left : (zs : List Node) → length ns ≡ length ys → zs ≡ replicate (length ns) none → zs ≡ nodes_after b (length s) ys
    nodes_left zs n e = law.left_empty b s ys p V s₁ l₁ left ns s₂ ws found l its zs n e

pub returns-in_err-judge_lent-clause-answer : goal.returns-in_err-judge_lent-clause-answer
returns-in_err-judge_lent-clause-answer c =
    law.refused_asked _ c.args.scratch.now c.args.nodes.now _ c.in_err-judge_lent.ensures.verdict _ c.from_residual.ensures.1

pub returns-in_err-judge_lent-clause-nodes : goal.returns-in_err-judge_lent-clause-nodes
returns-in_err-judge_lent-clause-nodes c =
    law.refused_nodes _ c.args.scratch.now c.args.nodes.now _ c.in_err-judge_lent.ensures.verdict

pub of-source-requires : goal.of-source-requires
of-source-requires c =
    law.headed _ c.args.scratch.now c.args.nodes.now _ c.in_ok-judge_lent.ensures.verdict

pub survey_circuit-found-requires : goal.survey_circuit-found-requires
survey_circuit-found-requires c =
    surveyable _ c.args.scratch.now c.args.nodes.now _ c.in_ok-judge_lent.ensures.verdict _ c.judge_lent.auto.scratch c.judge_lent.ensures.scratch _ c.of-source.ensures _ refl

pub clear_needed-requires : goal.clear_needed-requires
clear_needed-requires c =
    law.clearable _ c.args.scratch.now c.args.nodes.now _ c.in_ok-judge_lent.ensures.verdict _ c.of-source.ensures _ (c.survey_circuit-found.auto.scratch ∙ c.judge_lent.auto.scratch)

pub returns-in_err-found-clause-answer : goal.returns-in_err-found-clause-answer
returns-in_err-found-clause-answer c =
    short _ c.args.scratch.now c.args.nodes.now _ c.in_ok-judge_lent.ensures.verdict
    _ c.judge_lent.auto.scratch c.judge_lent.ensures.scratch _ c.of-source.ensures _ _ _ _ c.survey_circuit-found.auto.scratch c.survey_circuit-found.ensures
    _ c.in_err-found.was _ c.from_residual-in_err-found.ensures.1

pub returns-in_err-found-clause-scratch : goal.returns-in_err-found-clause-scratch
returns-in_err-found-clause-scratch c =
    scratch_left _ c.args.scratch.now c.args.nodes.now _ c.in_ok-judge_lent.ensures.verdict
    _ c.judge_lent.auto.scratch c.judge_lent.ensures.scratch _ c.of-source.ensures _ _ _ _ c.survey_circuit-found.auto.scratch c.survey_circuit-found.ensures
    _ c.clear_needed.ensures

pub returns-in_err-found-clause-nodes : goal.returns-in_err-found-clause-nodes
returns-in_err-found-clause-nodes c =
    nodes_left _ c.args.scratch.now c.args.nodes.now _ c.in_ok-judge_lent.ensures.verdict
    _ c.judge_lent.auto.scratch c.judge_lent.ensures.scratch _ c.of-source.ensures _ _ _ _ c.survey_circuit-found.auto.scratch c.survey_circuit-found.ensures
    _ c.survey_circuit-found.auto.nodes c.clear.ensures

pub plan_of-requires : goal.plan_of-requires
plan_of-requires c =
    plannable _ c.args.scratch.now c.args.nodes.now _ c.in_ok-judge_lent.ensures.verdict
    _ c.judge_lent.auto.scratch c.judge_lent.ensures.scratch _ c.of-source.ensures _ _ _ _ c.survey_circuit-found.auto.scratch c.survey_circuit-found.ensures
    _ c.in_ok-found.was

pub returns-clause-answer : goal.returns-clause-answer
returns-clause-answer c =
    planned _ c.args.scratch.now c.args.nodes.now _ c.in_ok-judge_lent.ensures.verdict
    _ c.judge_lent.auto.scratch c.judge_lent.ensures.scratch _ c.of-source.ensures _ _ _ _ c.survey_circuit-found.auto.scratch c.survey_circuit-found.ensures
    _ c.in_ok-found.was _ c.plan_of.ensures

pub returns-clause-scratch : goal.returns-clause-scratch
returns-clause-scratch c =
    scratch_left _ c.args.scratch.now c.args.nodes.now _ c.in_ok-judge_lent.ensures.verdict
    _ c.judge_lent.auto.scratch c.judge_lent.ensures.scratch _ c.of-source.ensures _ _ _ _ c.survey_circuit-found.auto.scratch c.survey_circuit-found.ensures
    _ c.clear_needed.ensures

pub returns-clause-nodes : goal.returns-clause-nodes
returns-clause-nodes c =
    nodes_left _ c.args.scratch.now c.args.nodes.now _ c.in_ok-judge_lent.ensures.verdict
    _ c.judge_lent.auto.scratch c.judge_lent.ensures.scratch _ c.of-source.ensures _ _ _ _ c.survey_circuit-found.auto.scratch c.survey_circuit-found.ensures
    _ c.survey_circuit-found.auto.nodes c.clear.ensures

pub returns-clause-asking : goal.returns-clause-asking
returns-clause-asking c =
    law.asking_of _ _ _ _ (planned _ c.args.scratch.now c.args.nodes.now _ c.in_ok-judge_lent.ensures.verdict
    _ c.judge_lent.auto.scratch c.judge_lent.ensures.scratch _ c.of-source.ensures _ _ _ _ c.survey_circuit-found.auto.scratch c.survey_circuit-found.ensures
    _ c.in_ok-found.was _ c.plan_of.ensures)
