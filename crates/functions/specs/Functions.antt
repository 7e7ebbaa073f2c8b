-- A circuit's signals and outputs as functions of all its inputs, and the nodes of their diagrams.
use Rattle.std.specs.Prelude.{Bool, false, List, ◌∷◌, ℕ, suc, ◌+◌, get_or}
use Rattle.circuit.specs.Lists.{grown}
use Rattle.circuit.specs.Circuit.{gates, all_inputs, gate_of_output, gate_value}
use Rattle.diagrams.specs.Counts.{nodes_of}

-- the value of signal s + 1, an input or a gate, given all inputs in signal order
unfoldable pub signal_on : List ℕ → (s : ℕ) → List Bool → Bool
signal_on b s vs = get_or (grown (false ∷ vs) (gate_value b) (gates b)) (suc s) false

-- output o, counted over all frames
unfoldable pub output_on : List ℕ → (o : ℕ) → List Bool → Bool
output_on b o vs = signal_on b (all_inputs b + gate_of_output b o) vs

-- the distinct nodes of the inputs and of gates 1 to k
unfoldable pub nodes_to : List ℕ → (k : ℕ) → ℕ
nodes_to b k = nodes_of (all_inputs b) (all_inputs b + k) (signal_on b)
