-- What is proved of every circuit.
use Rattle.std.specs.Prelude.{◌≡◌, false, List, [], ◌++◌, ℕ, suc, ◌+◌, ◌*◌, ◌-◌, ◌≤◌, ◌<◌, replicate}
use Rattle.sizes.specs.Sizes.{inputs, outputs, frames}
use Rattle.circuit.specs.Lists.{listed, packed}
use Rattle.circuit.specs.Circuit.{gates, lefts_at, rights_at, all_inputs, operand}
use Rattle.circuit.specs.WellFormed.{CircuitHeaded, WellFormed, Accepted}
use Rattle.circuit.specs.Theorems.{response}
use Rattle.circuit.specs.declared.Head.{Head}
use Rattle.diagrams.specs.Building.{Family}
use Rattle.diagrams.specs.Frames.{history_bits, Responds}
use Rattle.functions.specs.Functions.{signal_on, output_on, nodes_to}

-- the signals are a family: each input is itself, and each gate the AND of its operands
unfoldable pub SignalsFamily : Type 0
SignalsFamily = (b : List ℕ) (h : Head) → WellFormed b h → Family (all_inputs b) (gates b) (operand b (lefts_at b)) (operand b (rights_at b)) (signal_on b)

-- an accepted circuit's response is that of its outputs
unfoldable pub OutputsRespond : Type 0
OutputsRespond = (b : List ℕ) → Accepted b → Responds (inputs b) (outputs b) (frames b) (response b) (output_on b)

-- the response to any number h as history is the word of the frame's outputs, where all later inputs are false
unfoldable pub ResponsesRead : Type 0
ResponsesRead = (b : List ℕ) → CircuitHeaded b → (t h : ℕ) → t < frames b
    → response b (suc t) h ≡ packed (listed [] (λ j. output_on b (outputs b * t + j) (history_bits (inputs b) (suc t) h ++ replicate (inputs b * frames b - inputs b * suc t) false)) (outputs b))

-- however many gates, there are fewer than 2 ^ 29 nodes
unfoldable pub FewNodes : Type 0
FewNodes = (b : List ℕ) (h : Head) → WellFormed b h → (k : ℕ) → k ≤ gates b → nodes_to b k < 536870912
