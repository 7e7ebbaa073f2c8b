-- What folding needs of its source, as the code holds it, and the circuit that a source is.
use Rattle.std.specs.Prelude.{ℕ, ◌+◌, ◌*◌, ◌-◌, ◌≤◌, ◌<◌, ◌≡◌, List, true, false, cond, ltb, length, get_or}
use Rattle.sizes.specs.Limits.{most_inputs, most_outputs, most_bits}
use Rattle.sizes.specs.Sizes.{frames}
use Rattle.sizes.specs.Sized.{Sized}
use Rattle.circuit.specs.Limits.{most_gates}
use Rattle.circuit.specs.Circuit.{gates, all_inputs, all_outputs}
use Rattle.circuit.specs.WellFormed.{HeadOf, WellFormed}
use Rattle.circuit.specs.declared.Head.{Head}
use Rattle.source.specs.Rearranged.{rearranged, item_at}
use Rattle.source.specs.declared.Source.{Source}

-- the sizes of what is folded
abbrev pub head_of : Source → Head
head_of s = record { inputs = s.inputs; outputs = s.outputs; frames = s.frames; gates = s.gates; base = s.base; total = s.total }

-- the circuit that c is with this source: itself, or rearranged
unfoldable pub sourced : Source → (c : List ℕ) → List ℕ
sourced s c = cond s.whole c (rearranged c s.inputs s.outputs s.frames s.places s.shown)

-- which output of c stands at place q; for a circuit as it stands, the same
unfoldable pub item_in : Source → (q : ℕ) → ℕ
item_in s q = cond s.whole q (item_at s.own.total s.shown q)

-- the signal of the circuit or network that place q of an output shows; the constant where it shows none
unfoldable pub shown_signal : Source → (q : ℕ) → ℕ
shown_signal s q = cond (ltb (item_in s q) s.own.total) (s.own.base + (s.own.gates - s.own.total) + item_in s q) 0

-- what renaming a network's signal needs, where its gates are signals from `first` on, and stand from `base` on
pub record Renames (first base : ℕ) (places : List ℕ) (signal : ℕ) : Type 0 where
  pub first_from : 1 ≤ first
  pub first_to : first ≤ 1 + length places
  pub base_from : 1 ≤ base
  pub low : base + signal < 65536
  pub places_to : (i : ℕ) → i < first - 1 → get_or places i 0 < most_bits

-- c is a network that s spreads
pub record Spreads (c : List ℕ) (s : Source) : Type 0 where
  pub network : WellFormed c s.own
  pub one_frame : frames c ≡ 1
  pub few : gates c ≤ most_gates
  pub sizes : Sized most_inputs s.inputs s.outputs s.frames
  pub base_is : s.base ≡ 1 + s.inputs * s.frames
  pub total_is : s.total ≡ s.outputs * s.frames
  pub gates_is : s.gates ≡ gates c + s.total
  pub places_in : (i : ℕ) → i < all_inputs c → get_or s.places i 0 < s.inputs * s.frames
  pub few_outputs : all_outputs c ≤ most_outputs

-- s is that of the circuit c as it stands
pub record WholeOf (c : List ℕ) (s : Source) : Type 0 where
  pub head_is : HeadOf c (head_of s)
  pub own_is : s.own ≡ head_of s
  pub whole_is : s.whole ≡ true

-- s is a source of c: all that reads c by it asks for
pub data SourceOf (c : List ℕ) (s : Source) : Type 0 where
  stands : WholeOf c s → WellFormed c s.own → SourceOf c s
  spread : s.whole ≡ false → Spreads c s → SourceOf c s
