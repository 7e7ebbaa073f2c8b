-- Lanes: the values of signals on several sequences at once.
use Rattle.std.specs.Prelude.{ℕ, ◌+◌, ◌*◌, ◌-◌, ◌/◌, ◌%◌, ◌^◌, ◌≤◌, ◌<◌, ◌≡◌, Bool, cond, List, [], ◌++◌, map, get_or, take, replicate, eqb}
use Rattle.sizes.specs.Limits.{most_bits}
use Rattle.sizes.specs.Sizes.{inputs, frames}
use Rattle.circuit.specs.Lists.{listed, bit, packed}
use Rattle.circuit.specs.Circuit.{gates, lefts_at, rights_at, operand, all_inputs, gate_signal, input_values, gate_value, signal_values}
use Rattle.circuit.specs.Frames.{InputOf, OnlyInputOf}
use Rattle.layered.specs.Histories.{history_words}
use Rattle.lanes.specs.Limits.{lane_count}

-- lane j of each number
unfoldable pub lane : (j : ℕ) → List ℕ → List Bool
lane j v = map (λ x. bit x j) v

-- the lanes of a literal whose signal has the lanes x: an inverted one has each lane inverted
unfoldable pub literal_lanes : (x literal : ℕ) → ℕ
literal_lanes x literal = cond (eqb (literal % 2) 1) (2 ^ lane_count - 1 - x) x

-- the words of the history h of t words, and zero words after them, T words in all
abbrev pub sequence : (K T t h : ℕ) → List ℕ
sequence K T t h = history_words K t h ++ replicate (T - t) 0

-- lane j of v is the number h j: number p of v has its bit p
unfoldable pub NumberLanes : (v : List ℕ) (h : ℕ → ℕ) → Type 0
NumberLanes v h = (j p : ℕ) → j < lane_count → p < most_bits → bit (get_or v p 0) j ≡ bit (h j) p

-- the number whose bits are those of x that `bits` names, one for each place
unfoldable pub picked : (bits : List ℕ) (x : ℕ) → ℕ
picked bits x = packed (listed [] (λ p. bit x (get_or bits p 0)) most_bits)

-- in the first k numbers of v, lane j holds these values
unfoldable pub Lanes : (v : List ℕ) (k : ℕ) (values : ℕ → List Bool) → Type 0
Lanes v k values = (j : ℕ) → j < lane_count → take k (lane j v) ≡ values j

-- lane j of v holds the constant and the first i inputs, on the history h j of t words and zero words after them, T words in all
abbrev pub InputLanes : (n T t : ℕ) (h : ℕ → ℕ) (i : ℕ) (v : List ℕ) → Type 0
InputLanes n T t h i v = Lanes v (1 + i) (λ j. input_values (sequence (2 ^ n) T t (h j)) n i)

-- document 02, point 5, of the inputs: at a signal s of frame f, lane j of v has the bit of word f of the same sequence that has the signal's place
-- in the frame, and s is of no other frame
abbrev pub FrameLanes : (n T t : ℕ) (h : ℕ → ℕ) (v : List ℕ) → Type 0
FrameLanes n T t h v = (f s j : ℕ) → f ≤ T → InputOf n f s → j < lane_count
    → (bit (get_or v s 0) j ≡ bit (get_or (sequence (2 ^ n) T t (h j)) (f - 1) 0) (s - 1 - (f - 1) * n)) × OnlyInputOf n f s

-- the first k gates have in each lane the value that their operands give
unfoldable pub Settled : List ℕ → (v : List ℕ) (k : ℕ) → Type 0
Settled b v k = (g j : ℕ) → g < k → j < lane_count → bit (get_or v (gate_signal b g) 0) j ≡ gate_value b (lane j v) g

-- all gates are settled, unless the constant's number is not zero: then v is room that was not used yet
abbrev pub Ready : List ℕ → (v : List ℕ) → Type 0
Ready b v = get_or v 0 0 ≡ 0 → Settled b v (gates b)

-- gate g does not name signal s
abbrev pub Unnamed : List ℕ → (s g : ℕ) → Type 0
Unnamed b s g = ¬ (operand b (lefts_at b) g / 2 ≡ s) × ¬ (operand b (rights_at b) g / 2 ≡ s)

-- no gate from gate `from` to before the one that `firsts` has for signal s names s
unfoldable pub FirstUses : List ℕ → (from : ℕ) (firsts : List ℕ) → Type 0
FirstUses b from firsts = (s g : ℕ) → s < 1 + all_inputs b → from ≤ g → g < get_or firsts s 0 → Unnamed b s g

-- lane j of v holds the values of all signals on the history h j of t words
abbrev pub SignalLanes : List ℕ → (t : ℕ) (h : ℕ → ℕ) (v : List ℕ) → Type 0
SignalLanes b t h v = Lanes v (gate_signal b (gates b)) (λ j. signal_values b (sequence (2 ^ inputs b) (frames b) t (h j)) (gates b))
