-- What is proved of steps. Each statement is cited by the call that it is about.
use Rattle.std.specs.Prelude.{ℕ, suc, ◌^◌, ◌<◌, ◌≡◌, List, [], ◌∷◌, ◌++◌}
use Rattle.verdict.specs.Judgements.{answer}
use Rattle.sizes.specs.Sizes.{inputs, frames}
use Rattle.layered.specs.States.{Words}
use Rattle.layered.specs.Machines.{feed, reached}
use Rattle.table.specs.Table.{machine, checked}
use Rattle.positions.specs.declared.Position.{Position}
use Rattle.steps.specs.Steps.{stepped, position_of}
use Rattle.steps.specs.declared.StepFigures.{StepFigures}

-- what steps by the words c answer, each from the position that the one before it handed back
unfoldable pub steps_by : List ℕ → Position → List ℕ → List StepFigures
steps_by b p [] = []
steps_by b p (w ∷ c) =
    let f = stepped b p.layer p.state w in
    f ∷ steps_by b (position_of f) c

-- the outputs in answers
unfoldable pub outputs_of : List StepFigures → List ℕ
outputs_of [] = []
outputs_of (f ∷ fs) = f.output ∷ outputs_of fs

-- from what t words have reached, a step by w is accepted, gives the machine's output, and hands back what the t + 1 words reach
unfoldable pub StepReaches : List ℕ → Type 0
StepReaches b =
    (p : ℕ) → checked b ≡ answer 0 p → (t w : ℕ) (c : List ℕ) → t < frames b → Words (2 ^ inputs b) t c → w < 2 ^ inputs b
    → stepped b t (reached (machine b) 0 0 c) w
    ≡ record { number = 0; place = 0; output = (machine b).out t (reached (machine b) 0 0 c) w; layer = suc t; state = reached (machine b) 0 0 (c ++ (w ∷ [])) }

-- so steps through a sequence, from the start, give what a run gives
unfoldable pub StepsFeed : List ℕ → Type 0
StepsFeed b = (p : ℕ) → checked b ≡ answer 0 p → (words : List ℕ) → Words (2 ^ inputs b) (frames b) words → outputs_of (steps_by b (record { layer = 0; state = 0 }) words) ≡ feed (machine b) 0 0 words
