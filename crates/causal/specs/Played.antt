-- All sequences of a source played in parts of neighbours, one to a lane.
use Rattle.std.specs.Prelude.{ℕ, suc, ◌+◌, ◌*◌, ◌-◌, ◌/◌, ◌%◌, ◌≤◌, ◌<◌, ◌≡◌, Bool, true, false, cond, List, ltb, length, get_or}
use Rattle.layered.specs.Search.{every}
use Rattle.sizes.specs.Limits.{most_inputs, most_bits}
use Rattle.circuit.specs.Limits.{most_signals}
use Rattle.circuit.specs.Lists.{block_start}
use Rattle.circuit.specs.Circuit.{all_outputs, output_on, later_inputs, as_first}
use Rattle.source.specs.Source.{shown_signal}
use Rattle.source.specs.declared.Source.{Source}
use Rattle.lanes.specs.Limits.{lane_count}
use Rattle.blocks.specs.Blocks.{Holds}
use Rattle.causal.specs.Limits.{most_all_outputs}

-- ---- the circuit or network is played by its own inputs and signals

-- what is known of a network's places: there are so many, within what is given
pub record Placed (s : Source) : Type 0 where
  pub inputs_from : 1 ≤ s.inputs
  pub inputs_to : s.inputs ≤ most_inputs
  pub bits_to : s.inputs * s.frames ≤ most_bits
  pub places_in : (i : ℕ) → i + 1 < s.own.base → get_or s.places i 0 < s.inputs * s.frames

-- the bit of a sequence's number that is the input at place p, with n inputs to each of T frames
unfoldable pub place_bit : (n T p : ℕ) → ℕ
place_bit n T p = (T - suc (p / n)) * n + p % n

-- the bit of a sequence's number that input i of the circuit or network is: of a circuit as it stands the same, and 0 beyond a network's inputs
unfoldable pub own_bit : Source → (i : ℕ) → ℕ
own_bit s i = cond s.whole i (cond (ltb (i + 1) s.own.base) (place_bit s.inputs s.frames (get_or s.places i 0)) 0)

-- v has these bits
pub record OwnBits (s : Source) (v : List ℕ) : Type 0 where
  pub as_many : length v ≡ most_bits
  pub are : (i : ℕ) → i < most_bits → (get_or v i 0 ≡ own_bit s i) × (get_or v i 0 < most_bits)

-- v has the signals that the places of outputs show
pub record ShownSignals (s : Source) (v : List ℕ) : Type 0 where
  pub as_many : length v ≡ most_all_outputs
  pub are : (q : ℕ) → q < most_all_outputs → (get_or v q 0 ≡ shown_signal s q) × (get_or v q 0 < most_signals)

-- ---- parts

-- the lanes v of the signals have the outputs on the sequences from `at` on, each at the signal that is shown
unfoldable pub Outputs : List ℕ → (shown : List ℕ) (at : ℕ) (v : List ℕ) → Type 0
Outputs b shown at v = (q : ℕ) → q < all_outputs b → Holds (get_or v (get_or shown q 0) 0) at (output_on b q)

-- of the outputs from `from` to before `to`, k has on the sequences from `at` on what each is on the first that agrees up to its frame
unfoldable pub Firsts : List ℕ → (at : ℕ) (k : List ℕ) (from to : ℕ) → Type 0
Firsts b at k from to = (q : ℕ) → from ≤ q → q < to → Holds (get_or k q 0) at (λ x. output_on b q (block_start (later_inputs b q) x))

-- output q is so on each sequence of the part from `at` on
unfoldable pub part_as_first : List ℕ → (at q : ℕ) → Bool
part_as_first b at q = every lane_count (λ j. as_first b q (at + j))

-- r is the first output from `from` to before `to` that is not so on the part from `at` on; `to` where there is none
pub record FirstDiffering (b : List ℕ) (at from to r : ℕ) : Type 0 where
  pub r_from : from ≤ r
  pub r_to : r ≤ to
  pub before : (q : ℕ) → from ≤ q → q < r → part_as_first b at q ≡ true
  pub there : r < to → part_as_first b at r ≡ false
