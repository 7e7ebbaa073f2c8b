-- The latest frames that signals depend on by their gates (document 01): no part of what number 4 means, since an input that is reached may
-- have no effect; but an output whose gates reach no later input cannot look ahead.
use Rattle.std.specs.Prelude.{ℕ, ◌+◌, ◌*◌, ◌-◌, ◌/◌, ◌<◌, max, ◌≡◌, List, [], ◌∷◌, Bool, cond, get_or, ltb}
use Rattle.sizes.specs.Sizes.{inputs, outputs}
use Rattle.circuit.specs.Lists.{grown, listed}
use Rattle.circuit.specs.Circuit.{gates, lefts_at, rights_at, operand, all_inputs, output_signal, frame_of}
use Rattle.source.specs.declared.Source.{Source}

-- the latest frames of the constant and the inputs
unfoldable pub input_frames : (n count : ℕ) → List ℕ
input_frames n count = listed (0 ∷ []) (frame_of n) count

-- v holds the latest frame of the constant, and those of inputs 0 to k - 1 of each of T frames
abbrev pub InputsTo : (n T k : ℕ) (v : List ℕ) → Type 0
InputsTo n T k v = (get_or v 0 0 ≡ 0) × ((f j : ℕ) → f < T → j < k → get_or v (1 + (f * n + j)) 0 ≡ f + 1)

-- the later of the latest frames of gate g's operands, given those of the signals before it
unfoldable pub later_frame : List ℕ → List ℕ → (g : ℕ) → ℕ
later_frame b fs g = max (get_or fs (operand b (lefts_at b) g / 2) 0) (get_or fs (operand b (rights_at b) g / 2) 0)

-- the latest frames of the constant, the inputs and the first k gates
unfoldable pub latest_frames : List ℕ → (k : ℕ) → List ℕ
latest_frames b k = grown (input_frames (inputs b) (all_inputs b)) (later_frame b) k

-- the gates of output q reach an input of a later frame than its own
unfoldable pub reaches_later : List ℕ → (q : ℕ) → Bool
reaches_later b q = ltb (frame_of (outputs b) q) (get_or (latest_frames b (gates b)) (output_signal b q) 0)

-- ---- in the numbering of what is read: a circuit as it stands has the same, a network its own

-- the latest frames of the constant and the inputs, those of a network's by their places
unfoldable pub own_input_frames : Source → List ℕ
own_input_frames s = cond s.whole (input_frames s.inputs (s.own.base - 1)) (listed (0 ∷ []) (λ i. frame_of s.inputs (get_or s.places i 0)) (s.own.base - 1))

-- and of the first k gates of c
unfoldable pub own_frames : Source → (c : List ℕ) (k : ℕ) → List ℕ
own_frames s c k = grown (own_input_frames s) (later_frame c) k
