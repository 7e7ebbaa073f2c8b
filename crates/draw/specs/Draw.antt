-- What the code that draws holds of a frame, and of the states that it leaves.
use Rattle.std.specs.Prelude.{ℕ, suc, ◌+◌, ◌*◌, ◌^◌, ◌≡◌, cond, List, ltb, length, take}
use Rattle.sizes.specs.Sizes.{inputs, frames}
use Rattle.table.specs.Table.{states, entries_below, outputs_at, nexts_at}
use Rattle.unfolded.specs.Unfolded.{Frame, table_frame, drawing}
use Rattle.draw.specs.Limits.{most_drawn_states}
use Rattle.draw.specs.declared.Source.{Source}

-- the frame from layer t, behind all that is drawn before it
abbrev pub frame_at : List ℕ → (t : ℕ) → Frame
frame_at b t = table_frame b t (drawing b t)

-- how many gates are drawn before it
abbrev pub gates_before : List ℕ → (t : ℕ) → ℕ
gates_before b t = length (drawing b t).gates

-- its source, where its gates begin with gate `first`
abbrev pub source_of : List ℕ → (t first : ℕ) → Source
source_of b t first = record {
  frame = t;
  first = first;
  edges = states b t * 2 ^ inputs b;
  drawn = cond (ltb (suc t) (frames b)) (states b (suc t)) 0;
  nexts = nexts_at b + 2 * entries_below b t;
  outputs = outputs_at b + 2 * entries_below b t;
}

-- the list v begins with the literals of layer t's states
pub record StatesKept (b : List ℕ) (t : ℕ) (v : List ℕ) : Type 0 where
  pub long : length v ≡ most_drawn_states
  pub kept : take (length (drawing b t).states) v ≡ (drawing b t).states
