-- A table stepped (document 01's "step").
use Rattle.std.specs.Prelude.{ℕ, suc, cond, List, eqb, Result, Ok, Err}
use Rattle.verdict.specs.Judgements.{answer, refusal_figures, refuse, and_then}
use Rattle.verdict.specs.declared.Figures.{Figures}
use Rattle.positions.specs.Positions.{position_checked}
use Rattle.positions.specs.declared.Position.{Position}
use Rattle.table.specs.Table.{outputs_at, nexts_at, entry_at, machine, head_checked, bad_output, bad_next}
use Rattle.steps.specs.declared.Moved.{Moved}
use Rattle.steps.specs.declared.Halted.{Halted}
use Rattle.steps.specs.declared.StepFigures.{StepFigures}

-- 5, of the one entry that is read, output before next
unfoldable pub entry_checked : List ℕ → (t s w : ℕ) → Figures
entry_checked b t s w =
    refuse (bad_output b t ((machine b).out t s w)) 5 (entry_at b (outputs_at b) t s w)
    (refuse (bad_next b t ((machine b).next t s w)) 5 (entry_at b (nexts_at b) t s w)
    (answer 0 0))

-- the verdict on the move that a step makes: 11, 10, 9, then 5
unfoldable pub move_checked : List ℕ → (layer state word : ℕ) → Figures
move_checked b layer state word = and_then (position_checked b layer state word) (entry_checked b layer state word)

-- the verdict on a step: all of the table's order before 5, then that on the move
unfoldable pub step_checked : List ℕ → (layer state word : ℕ) → Figures
step_checked b layer state word = and_then (head_checked b) (move_checked b layer state word)

-- number, place, output, layer and state that a step returns: after acceptance it has moved on
abbrev pub moved : List ℕ → (layer state word : ℕ) → StepFigures
moved b layer state word = record { number = 0; place = 0; output = (machine b).out layer state word; layer = suc layer; state = (machine b).next layer state word }

-- after a refusal: output 0 and the position given
abbrev pub handed_back : Figures → (layer state : ℕ) → StepFigures
handed_back f layer state = record { number = f.number; place = f.place; output = 0; layer = layer; state = state }

-- which of the two a judgement leads to
abbrev pub step_after : Figures → List ℕ → (layer state word : ℕ) → StepFigures
step_after f b layer state word = cond (eqb f.number 0) (moved b layer state word) (handed_back f layer state)

-- what a step returns
unfoldable pub stepped : List ℕ → (layer state word : ℕ) → StepFigures
stepped b layer state word = step_after (step_checked b layer state word) b layer state word

-- the position in a step's answer
abbrev pub position_of : StepFigures → Position
position_of f = record { layer = f.layer; state = f.state }

-- what document 01 gives each case of a step's answer
abbrev pub step_figures : Result Moved Halted → StepFigures
step_figures (Ok m) = record { number = 0; place = 0; output = m.output; layer = m.position.layer; state = m.position.state }
step_figures (Err h) = handed_back (refusal_figures h.refusal) h.position.layer h.position.state
