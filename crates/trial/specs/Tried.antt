-- A table as what is to be matched, as the code holds it, and a candidate: the next states of all entries of a machine.
use Rattle.std.specs.Prelude.{ℕ, ◌+◌, ◌*◌, ◌^◌, ◌≤◌, ◌<◌, ◌≡◌, List, length, get_or}
use Rattle.sizes.specs.Sizes.{inputs, outputs, frames}
use Rattle.table.specs.Table.{connected, entries_below, entry_count, outputs_at, machine}
use Rattle.table.specs.Sound.{Sound}
use Rattle.merged.specs.Merged.{Target}
use Rattle.merged.specs.Demands.{target_after, state_after, Within}
use Rattle.trial.specs.declared.Sought.{Sought}
use Rattle.trial.specs.declared.Place.{Place}
use Rattle.trial.specs.declared.Visit.{Visit}

-- what is to be matched: the machine that the table b is, in its connected outputs
abbrev pub target_of : (words last : ℕ) → List ℕ → Target
target_of words last b = record { K = words; m = outputs b; T = last; machine = machine b; connected = connected b }

-- the sizes are those of b, whose words have at most two bits, and of a machine of one to three states; `starts` has where the outputs of each layer
-- begin, and the next state of an entry stands `gap` bytes behind its output
pub record Held (b starts : List ℕ) (a : Sought) : Type 0 where
  pub sound : Sound b
  pub inputs_are : a.inputs ≡ inputs b
  pub few_inputs : a.inputs ≤ 2
  pub words_are : a.words ≡ 2 ^ a.inputs
  pub frames_are : a.frames ≡ frames b
  pub gap_is : a.gap ≡ 2 * entry_count b
  pub starts_long : a.frames ≤ length starts
  pub starts_are : (t : ℕ) → t < a.frames → get_or starts t 0 ≡ outputs_at b + 2 * entries_below b t
  pub some_states : 1 ≤ a.states
  pub few_states : a.states ≤ 3
  pub entries_are : a.entries ≡ a.states * a.words

-- next states of a candidate
pub record Candidate (a : Sought) (chosen : List ℕ) : Type 0 where
  pub long : a.entries ≤ length chosen
  pub small : (e : ℕ) → e < a.entries → get_or chosen e 0 < a.states

-- where the history h of t words leads, in the table and in the candidate, and a bound above the entries that it used
pub record Leads (B : Target) (next : ℕ → ℕ) (t h : ℕ) (r : Place) : Type 0 where
  pub target_is : r.target ≡ target_after B t h
  pub state_is : r.state ≡ state_after B next t h
  pub within : Within B next r.used t h

-- the same with the entry and the output that the last word of a history of t + 1 words comes to
pub record Comes (B : Target) (next : ℕ → ℕ) (t g w : ℕ) (r : Visit) : Type 0 where
  pub entry_is : r.entry ≡ state_after B next t g * B.K + w
  pub out_is : r.out ≡ B.machine.out t (target_after B t g) w
  pub within : Within B next r.used t g
