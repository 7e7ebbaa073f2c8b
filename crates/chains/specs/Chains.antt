-- What the code that draws leaves: gates stored in a result, and their literals.
use Rattle.std.specs.Prelude.{ℕ, ◌+◌, ◌*◌, ◌-◌, ◌/◌, ◌%◌, ◌^◌, ◌≤◌, ◌≡◌, cond, List, map, eqb, length, get_or}
use Rattle.words.specs.Words.{stored}
use Rattle.sizes.specs.Limits.{most_inputs, most_outputs, most_bits}
use Rattle.sizes.specs.Sizes.{inputs, outputs, frames}
use Rattle.circuit.specs.Limits.{circuit_head, most_gates}
use Rattle.unfolded.specs.Unfolded.{gates_needed}
use Rattle.chains.specs.declared.Target.{Target}

-- ---- the result

-- the circuit is within the limits, and the result v has room for it
pub record Fits (target : Target) (v : List ℕ) : Type 0 where
  pub inputs_from : 1 ≤ target.inputs
  pub inputs_to : target.inputs ≤ most_inputs
  pub words_are : target.words ≡ 2 ^ target.inputs
  pub outputs_to : target.outputs ≤ most_outputs
  pub base_to : target.base ≤ 1 + most_bits
  pub gates_to : target.gates ≤ most_gates
  pub room : circuit_head + 4 * target.gates ≤ length v

-- it is the circuit that the table b is drawn as
abbrev pub target_of : List ℕ → Target
target_of b = record { inputs = inputs b; words = 2 ^ inputs b; outputs = outputs b; base = 1 + inputs b * frames b; gates = gates_needed b }

-- the result v after gates were stored from gate k on, in a circuit of G gates: left literals in the first array, right ones in the second
unfoldable pub gates_stored : (G k : ℕ) → List ℕ → List (ℕ × ℕ) → List ℕ
gates_stored G k v gs = stored 2 (stored 2 v (circuit_head + 2 * k) (map (λ g. g.0) gs)) (circuit_head + 2 * (G + k)) (map (λ g. g.1) gs)

-- ---- literals

-- what a chain ends with whose gates are those from `first` up to, not including, k
unfoldable pub end_of : (base first k : ℕ) → ℕ
end_of base first k = cond (eqb k first) 1 (2 * (base + (k - 1)))

-- the match of word w, where the match chains begin with signal `at`
unfoldable pub match_of : (n at w : ℕ) → ℕ
match_of n at w = 2 * (at + (w * n + (n - 1)))

-- edge e, by state, then word
unfoldable pub edge_of : (n at : ℕ) (states : List ℕ) (e : ℕ) → ℕ × ℕ
edge_of n at states e = (get_or states (e / 2 ^ n) 0, match_of n at (e % 2 ^ n))
