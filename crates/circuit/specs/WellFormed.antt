-- What the functions behind the check may assume of a circuit.
use Rattle.std.specs.Prelude.{ℕ, ◌+◌, ◌*◌, ◌/◌, ◌≤◌, ◌<◌, ◌≡◌, List, true, false, length}
use Rattle.sizes.specs.Sizes.{inputs, outputs, frames}
use Rattle.sizes.specs.Sized.{Sized}
use Rattle.sizes.specs.Limits.{most_inputs, most_bits}
use Rattle.circuit.specs.Limits.{circuit_head, most_wired}
use Rattle.circuit.specs.Circuit.{gates, lefts_at, rights_at, literal_at, all_inputs, all_outputs, admissible, operand, looks_ahead}
use Rattle.circuit.specs.declared.Head.{Head}
use Rattle.circuit.specs.declared.Gate.{Gate}

-- the sizes are within the limits, n up to 16, and the circuit is as long as they say
pub record CircuitHeaded (b : List ℕ) : Type 0 where
  pub sizes : Sized most_bits (inputs b) (outputs b) (frames b)
  pub inputs_to : all_inputs b ≤ most_bits
  pub outputs_to : all_outputs b ≤ gates b
  pub gates_to : gates b ≤ most_wired
  pub whole : length b ≡ circuit_head + 4 * gates b

-- h holds the sizes of b
pub record HeadOf (b : List ℕ) (h : Head) : Type 0 where
  pub inputs_is : h.inputs ≡ inputs b
  pub outputs_is : h.outputs ≡ outputs b
  pub frames_is : h.frames ≡ frames b
  pub gates_is : h.gates ≡ gates b
  pub base_is : h.base ≡ 1 + all_inputs b
  pub total_is : h.total ≡ all_outputs b

-- each gate's two literals are admissible
pub record LegalGates (b : List ℕ) : Type 0 where
  pub left : (g : ℕ) → g < gates b → admissible b g (literal_at b (lefts_at b) g) ≡ true
  pub right : (g : ℕ) → g < gates b → admissible b g (literal_at b (rights_at b) g) ≡ true

-- the circuit passed every check but 4, and h holds its sizes: what all code behind the check asks for
pub record WellFormed (b : List ℕ) (h : Head) : Type 0 where
  pub headed : CircuitHeaded b
  pub head_is : HeadOf b h
  pub legal : LegalGates b

-- all that passing every check but 4 tells of a circuit
pub record Formed (b : List ℕ) : Type 0 where
  pub head : CircuitHeaded b
  pub sizes : Sized most_inputs (inputs b) (outputs b) (frames b)
  pub literals : LegalGates b

-- and all that acceptance tells: what all that folds asks for
pub record Accepted (b : List ℕ) : Type 0 where
  pub form : Formed b
  pub causal : (q : ℕ) → q < all_outputs b → looks_ahead b q ≡ false

-- the literals of gate g, as they stand
abbrev pub literals_of : List ℕ → (g : ℕ) → Gate
literals_of b g = record { left = literal_at b (lefts_at b) g; right = literal_at b (rights_at b) g }

-- r holds the operands of gate g, which are of signals before it
pub record GateOf (b : List ℕ) (g : ℕ) (r : Gate) : Type 0 where
  pub left_is : r.left ≡ operand b (lefts_at b) g
  pub right_is : r.right ≡ operand b (rights_at b) g
  pub left_before : r.left / 2 < 1 + all_inputs b + g
  pub right_before : r.right / 2 < 1 + all_inputs b + g
