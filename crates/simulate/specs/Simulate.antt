-- A circuit simulated on several sequences side by side (document 01's "playing", and document 02, point 3).
use Rattle.std.specs.Prelude.{ℕ, ◌*◌, List, ltb, length, take, drop}
use Rattle.verdict.specs.Judgements.{refuse, and_then, result_after}
use Rattle.verdict.specs.declared.Figures.{Figures}
use Rattle.sizes.specs.Sizes.{inputs, frames, sequence_checked}
use Rattle.layered.specs.Search.{join}
use Rattle.circuit.specs.Circuit.{checked, output_words}
use Rattle.simulate.specs.Limits.{most_sequences}

-- sequence k, from 0, of a list of sequences of T words that stand one behind the other
unfoldable pub sequence_at : (T : ℕ) (words : List ℕ) (k : ℕ) → List ℕ
sequence_at T words k = take T (drop (k * T) words)

-- the circuit's outputs on each of `count` sequences, one behind the other
unfoldable pub all_output_words : List ℕ → (count : ℕ) (words : List ℕ) → List ℕ
all_output_words b count words = join count (λ k. output_words b (sequence_at (frames b) words k))

-- 13, 12, 9, 7, of `count` sequences of T words and a result with room for so many words
unfoldable pub sequences_checked : (n T count : ℕ) (words : List ℕ) (room : ℕ) → Figures
sequences_checked n T count words room =
    refuse (ltb most_sequences count) 13 count
    (sequence_checked n (count * T) words room)

-- the check, then 13, 12, 9, 7
unfoldable pub simulated : List ℕ → (count : ℕ) (words : List ℕ) (room : ℕ) → Figures
simulated b count words room = and_then (checked b) (sequences_checked (inputs b) (frames b) count words room)

-- what the result holds after a simulation
unfoldable pub simulation_result : List ℕ → (count : ℕ) (words before : List ℕ) → List ℕ
simulation_result b count words before = result_after (simulated b count words (length before)) (all_output_words b count words) before
