-- What the C interface leaves in `answer` and in whatever else it is lent.
use Rattle.std.specs.Prelude.{ℕ, ◌+◌, cond, List, [], ◌∷◌, ◌++◌, ltb, length, drop}
use Rattle.verdict.specs.declared.Figures.{Figures}
use Rattle.steps.specs.declared.StepFigures.{StepFigures}
use Rattle.price.specs.declared.PriceFigures.{PriceFigures}
use Rattle.folded.specs.Planned.{plan_length}
use Rattle.view.specs.declared.layers.LayerFigures.{LayerFigures}

-- the numbers that a call answers: number and place
abbrev pub verdict_numbers : Figures → List ℕ
verdict_numbers f = f.number ∷ f.place ∷ []

-- a step also output, layer and state
abbrev pub step_numbers : StepFigures → List ℕ
step_numbers f = f.number ∷ f.place ∷ f.output ∷ f.layer ∷ f.state ∷ []

-- a step of the board the output alone: the position is lent beside it
abbrev pub quiet_numbers : StepFigures → List ℕ
quiet_numbers f = f.number ∷ f.place ∷ f.output ∷ []

-- pricing the cents
abbrev pub price_numbers : PriceFigures → List ℕ
price_numbers f = f.number ∷ f.place ∷ f.cents ∷ []

-- and a layer's outputs where they stand in the table: offset and length in bytes
abbrev pub layer_numbers : LayerFigures → List ℕ
layer_numbers f = f.number ∷ f.place ∷ f.offset ∷ f.length ∷ []

-- an `answer` that begins with these numbers, the rest as before
abbrev pub filled : (numbers answer : List ℕ) → List ℕ
filled numbers answer = numbers ++ drop (length numbers) answer

-- what a call that answers these numbers leaves in it: all as before where it is too short for them
unfoldable pub answer_after : (numbers answer : List ℕ) → List ℕ
answer_after numbers answer = cond (ltb (length answer) (length numbers)) answer (filled numbers answer)

-- how many numbers a call answers: number and place; a step of the board the output too, and asking the plan. In src/ these are associated
-- constants of `Limits`.
abbrev pub verdict_length : ℕ
verdict_length = 2

abbrev pub quiet_length : ℕ
quiet_length = 3

abbrev pub ask_length : ℕ
ask_length = verdict_length + plan_length

-- what a call that answers so many leaves in whatever else it is lent: as the library's call does, but as before where `answer` is too short
unfoldable pub lent_after : {A : Type 0} (count : ℕ) (answer : List ℕ) (after before : A) → A
lent_after count answer after before = cond (ltb (length answer) count) before after
