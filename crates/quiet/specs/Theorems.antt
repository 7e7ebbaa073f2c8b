-- What is proved of a board that is stepped word by word. Each statement is cited by the calls that it is about.
use Rattle.std.specs.Prelude.{ℕ, ◌+◌, ◌^◌, ◌≤◌, ◌≡◌, Bool, true, false, ◌&&◌, cond, List, [], ◌∷◌, ◌++◌, T, eqb, ltb, length}
use Rattle.verdict.specs.Judgements.{answer}
use Rattle.sizes.specs.Sizes.{inputs, frames}
use Rattle.layered.specs.States.{Words}
use Rattle.layered.specs.Machines.{feed, reached}
use Rattle.table.specs.Table.{machine, checked}
use Rattle.positions.specs.declared.Position.{Position}
use Rattle.steps.specs.Steps.{position_of}
use Rattle.steps.specs.Theorems.{steps_by, outputs_of}
use Rattle.steps.specs.declared.StepFigures.{StepFigures}
use Rattle.quiet.specs.Limits.{week_minutes}
use Rattle.quiet.specs.Windows.{windows_checked, is_quiet}
use Rattle.quiet.specs.Quiet.{quiet_stepped}

-- an input word with the minute of the week in which it comes (an impulse of document 02)
pub record TimedWord : Type 0 where
  pub minute : ℕ
  pub word : ℕ

-- the words alone
unfoldable pub words_of : List TimedWord → List ℕ
words_of [] = []
words_of (i ∷ is) = i.word ∷ words_of is

-- what the board answers to timed words, each stepped from the position that the one before it left
unfoldable pub quiet_steps_by : (b windows : List ℕ) → Position → List TimedWord → List StepFigures
quiet_steps_by b windows p [] = []
quiet_steps_by b windows p (i ∷ is) =
    let f = quiet_stepped b windows i.minute p.layer p.state i.word in
    f ∷ quiet_steps_by b windows (position_of f) is

-- whether all are accepted
unfoldable pub all_accepted : List StepFigures → Bool
all_accepted [] = true
all_accepted (f ∷ fs) = eqb f.number 0 && all_accepted fs

-- the position that they leave the board at
unfoldable pub left_at : Position → List StepFigures → Position
left_at p [] = p
left_at p (f ∷ fs) = left_at (position_of f) fs

-- outputs that come with timed words, 0 where the minute is quiet
unfoldable pub silenced : (windows : List ℕ) → List TimedWord → List ℕ → List ℕ
silenced windows (i ∷ is) (o ∷ os) = cond (is_quiet windows i.minute) 0 o ∷ silenced windows is os
silenced windows [] os = []
silenced windows (i ∷ is) [] = []

-- what holds of timed words from the position p, beside plain steps by the same words
pub record AsPlain (b windows : List ℕ) (p : Position) (is : List TimedWord) : Type 0 where
  -- the plain steps are all accepted, and leave the same position, whatever was quiet
  pub accepted : T (all_accepted (steps_by b p (words_of is)))
  pub position_same : left_at p (quiet_steps_by b windows p is) ≡ left_at p (steps_by b p (words_of is))
  -- it is the one that the table's machine moves to, fed the words
  pub position_is : left_at p (steps_by b p (words_of is)) ≡ record { layer = p.layer + length is; state = reached (machine b) p.layer p.state (words_of is) }
  -- each output is the plain step's, or 0 where its minute is quiet
  pub outputs_silenced : outputs_of (quiet_steps_by b windows p is) ≡ silenced windows is (outputs_of (steps_by b p (words_of is)))
  -- and the plain steps' are those that the machine yields
  pub outputs_are : outputs_of (steps_by b p (words_of is)) ≡ feed (machine b) p.layer p.state (words_of is)

-- this holds of all timed words that are accepted, from any position
unfoldable pub QuietSteps : (b windows : List ℕ) → Type 0
QuietSteps b windows = (p : Position) (is : List TimedWord) → T (all_accepted (quiet_steps_by b windows p is)) → AsPlain b windows p is

-- so a word in a minute that is not quiet gives what the plain table gives after all words before it, however many of them were silent: the
-- first strike after silence is the plain table's
unfoldable pub AfterSilence : (b windows : List ℕ) → Type 0
AfterSilence b windows =
    (p : Position) (is : List TimedWord) (i : TimedWord) → T (all_accepted (quiet_steps_by b windows p (is ++ (i ∷ [])))) → is_quiet windows i.minute ≡ false
    → outputs_of (quiet_steps_by b windows p (is ++ (i ∷ [])))
    ≡ outputs_of (quiet_steps_by b windows p is) ++ ((machine b).out (p.layer + length is) (reached (machine b) p.layer p.state (words_of is)) i.word ∷ [])

-- whether all come in a minute of the week
unfoldable pub all_timed : List TimedWord → Bool
all_timed [] = true
all_timed (i ∷ is) = ltb i.minute week_minutes && all_timed is

-- a table that passes every check, with windows that do, accepts from the start up to T words below 2^n in minutes of the week
unfoldable pub QuietAccepts : (b windows : List ℕ) → Type 0
QuietAccepts b windows =
    (p q : ℕ) → checked b ≡ answer 0 p → windows_checked windows ≡ answer 0 q → (k : ℕ) (is : List TimedWord) → k ≤ frames b
    → Words (2 ^ inputs b) k (words_of is) → T (all_timed is) → T (all_accepted (quiet_steps_by b windows (record { layer = 0; state = 0 }) is))
