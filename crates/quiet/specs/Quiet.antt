-- A table stepped in a minute of the week: output 0 where the minute is quiet, while the state advances.
use Rattle.std.specs.Prelude.{ℕ, Bool, cond, List}
use Rattle.verdict.specs.Judgements.{and_then}
use Rattle.verdict.specs.declared.Figures.{Figures}
use Rattle.table.specs.Table.{head_checked}
use Rattle.steps.specs.Steps.{move_checked, step_after}
use Rattle.steps.specs.declared.StepFigures.{StepFigures}
use Rattle.quiet.specs.Windows.{time_checked, is_quiet}

-- the verdict on a step: all of the table's order before 5, then 15, 16, then 11, 10, 9, 5 as of a plain step
unfoldable pub quiet_checked : List ℕ → (windows : List ℕ) (minute layer state word : ℕ) → Figures
quiet_checked b windows minute layer state word = and_then (head_checked b) (and_then (time_checked windows minute) (move_checked b layer state word))

-- a step's answer as it is heard: output 0 where it is quiet, all else as it is
abbrev pub heard : (quiet : Bool) → StepFigures → StepFigures
heard quiet f = record { number = f.number; place = f.place; output = cond quiet 0 f.output; layer = f.layer; state = f.state }

-- what a step returns: moved on as a plain step, or handed back, as it is heard in that minute
unfoldable pub quiet_stepped : List ℕ → (windows : List ℕ) (minute layer state word : ℕ) → StepFigures
quiet_stepped b windows minute layer state word = heard (is_quiet windows minute) (step_after (quiet_checked b windows minute layer state word) b layer state word)
