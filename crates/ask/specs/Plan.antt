-- The numbers of a plan and of what asking answers, and what is known of a circuit that was surveyed.
use Rattle.std.specs.Prelude.{ℕ, ◌+◌, ◌-◌, List, [], ◌∷◌, ◌++◌, replicate, Result, Ok, Err}
use Rattle.verdict.specs.Judgements.{answer, refusal_figures}
use Rattle.verdict.specs.declared.Figures.{Figures}
use Rattle.verdict.specs.declared.Refusal.{Refusal}
use Rattle.sizes.specs.Sizes.{inputs, outputs, frames}
use Rattle.circuit.specs.Theorems.{response}
use Rattle.explore.specs.Explore.{CountsTo}
use Rattle.folded.specs.Planned.{plan_length}
use Rattle.ask.specs.declared.plan.Plan.{Plan}

-- what asking answers: a plan, or a refusal
abbrev pub Asked : Type 0
Asked = Result Plan Refusal

-- the numbers of a plan, in document 02's order
abbrev pub plan_numbers : Plan → List ℕ
plan_numbers p = p.inputs ∷ p.outputs ∷ p.frames ∷ (p.counts ++ (p.bytes ∷ []))

-- number and place of each case of what asking answers, and the plan, zeros where it refuses
abbrev pub ask_figures : Asked → Figures
ask_figures (Ok p) = answer 0 0
ask_figures (Err r) = refusal_figures r

abbrev pub ask_plan : Asked → List ℕ
ask_plan (Ok p) = plan_numbers p
ask_plan (Err r) = replicate plan_length 0

abbrev pub ask_numbers : Asked → List ℕ
ask_numbers a = (ask_figures a).number ∷ (ask_figures a).place ∷ ask_plan a

-- these are the counts of the circuit's layers
abbrev pub Counted : (b counts : List ℕ) → Type 0
Counted b counts = CountsTo (inputs b) (outputs b) (frames b) (response b) counts (frames b - 1)
