-- What a survey of a circuit works with.
use Rattle.std.specs.Prelude.{◌≡◌, List, ℕ, ◌+◌, ◌*◌, ◌-◌, ◌^◌, ◌≤◌, ◌<◌, min, length, get_or, Result, Ok, Err}
use Rattle.verdict.specs.declared.Refusal.{Refusal}
use Rattle.verdict.specs.declared.Refusal.TheVariants.{Nodes}
use Rattle.circuit.specs.Limits.{most_signals}
use Rattle.sizes.specs.Sizes.{inputs, outputs, frames}
use Rattle.circuit.specs.Circuit.{gates, all_inputs, output_signal}
use Rattle.circuit.specs.WellFormed.{Accepted}
use Rattle.circuit.specs.Theorems.{response}
use Rattle.circuit.specs.declared.Head.{Head}
use Rattle.diagrams.specs.Making.{no_id}
use Rattle.diagrams.specs.Building.{Built, first_over}
use Rattle.functions.specs.Functions.{signal_on, output_on}
use Rattle.nodes.specs.declared.Node.{Node}
use Rattle.records.specs.Records.{nodes_in}
use Rattle.conjoin.specs.declared.Shape.{Shape}
use Rattle.explore.specs.Explore.{column_count, Explored, CountsTo, Subject}
use Rattle.explore.specs.declared.Layout.{Layout}

-- what a survey finds: the counts of all layers, or 18
abbrev pub Survey : Type 0
Survey = Result (List ℕ) Refusal

-- how many numbers its work takes, and how many records any circuit can need. In src/ they are the associated constants of `Bounds`.
abbrev pub work_length : ℕ
work_length = most_signals + column_count

abbrev pub most_records : ℕ
most_records = 536870912

-- the first gate for whose nodes so many records are too few; one more than there are gates where they are enough
abbrev pub first_short : (b : List ℕ) (records : ℕ) → ℕ
first_short b records = first_over (all_inputs b) (min records most_records) (gates b) (signal_on b)

-- the shape of its diagrams, with so many records lent
pub record ShapeOf (h : Head) (records : ℕ) (s : Shape) : Type 0 where
  pub room_is : s.room ≡ min records most_records
  pub inputs_is : s.inputs ≡ h.base - 1
  pub cache_is : s.cache ≡ most_signals

-- the sizes of its exploration, and where things lie
pub record LayoutOf (h : Head) (l : Layout) : Type 0 where
  pub fan_is : l.fan ≡ 2 ^ h.inputs
  pub bits_is : l.bits ≡ h.inputs
  pub frames_is : l.frames ≡ h.frames
  pub outputs_is : l.outputs ≡ h.outputs
  pub half_is : l.half ≡ 2 ^ (h.inputs * h.frames)
  pub roots_is : l.roots ≡ h.base + (h.gates - h.total)
  pub columns_is : l.columns ≡ most_signals

-- what is explored of the circuit b: its response, by its outputs' diagrams, whose ids stand among those of the signals
abbrev pub subject_of : (b : List ℕ) (ns : List Node) (ws : List ℕ) → Subject
subject_of b ns ws = record { y = response b; F = output_on b; D = nodes_in ns; root = λ o. get_or ws (output_signal b o) 0 }

-- what it may be asked: an accepted circuit, a scratch that is zero as far as it needs it, and a work that is all zero
pub record Surveyable (b s ws : List ℕ) : Type 0 where
  pub accepted : Accepted b
  pub room : 2 * (2 ^ inputs b) ^ frames b ≤ length s
  pub clean : (j : ℕ) → j < 2 * (2 ^ inputs b) ^ frames b → get_or s j 0 ≡ 0
  pub zeros : (i : ℕ) → get_or ws i 0 ≡ 0
  pub space : work_length ≤ length ws

-- what a survey leaves where the records are enough: all signals are built in ns, their ids in ws, and all states explored in s
pub record Known (b : List ℕ) (R : ℕ) (ns : List Node) (s ws : List ℕ) (counts : List ℕ) : Type 0 where
  pub built : Built (all_inputs b) (all_inputs b + gates b) R (signal_on b) (nodes_in ns) ws
  pub within : R ≤ length ns
  pub room : R + 2 < no_id
  pub explored : Explored (inputs b) (outputs b) (frames b) (response b) ((2 ^ inputs b) ^ frames b) s (frames b - 1)
  pub counted : CountsTo (inputs b) (outputs b) (frames b) (response b) counts (frames b - 1)

-- what it answers and leaves of the scratch s, which becomes r
pub record Surveyed (b : List ℕ) (records : ℕ) (ns : List Node) (s r ws : List ℕ) (a : Survey) : Type 0 where
  pub short : (refusal : Refusal) → a ≡ Err refusal → (refusal ≡ Nodes (first_short b records)) × (first_short b records ≤ gates b)
  pub whole : (counts : List ℕ) → a ≡ Ok counts → (first_short b records ≡ gates b + 1) × Known b (min records most_records) ns r ws counts
  pub beyond : (j : ℕ) → 2 * (2 ^ inputs b) ^ frames b ≤ j → get_or r j 0 ≡ get_or s j 0
