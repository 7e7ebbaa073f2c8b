-- Sequences that are simulated side by side do not touch one another.
use Rattle.std.specs.Prelude.{ℕ, ◌≤◌, ◌<◌, ◌≡◌, List, length}
use Rattle.verdict.specs.Judgements.{answer}
use Rattle.sizes.specs.Sizes.{frames}
use Rattle.circuit.specs.Circuit.{output_words}
use Rattle.simulate.specs.Simulate.{sequence_at, simulated, simulation_result}

-- where `count` sequences are accepted, each is accepted alone as well, and gets the same outputs in either call: the circuit's on that sequence
unfoldable pub EachAlone : List ℕ → Type 0
EachAlone b = (count : ℕ) (words before : List ℕ) (p : ℕ) → simulated b count words (length before) ≡ answer 0 p
    → (k : ℕ) → k < count → (before' : List ℕ) → frames b ≤ length before'
    → (simulated b 1 (sequence_at (frames b) words k) (length before') ≡ answer 0 (frames b))
    × (sequence_at (frames b) (simulation_result b count words before) k ≡ output_words b (sequence_at (frames b) words k))
    × (sequence_at (frames b) (simulation_result b 1 (sequence_at (frames b) words k) before') 0 ≡ output_words b (sequence_at (frames b) words k))
