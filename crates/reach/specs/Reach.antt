-- Reach counts of a table (document 02, Point 4; "census" there): how many histories lead to each state, and the smallest of them.
use Rattle.std.specs.Prelude.{ℕ, suc, ◌^◌, List, ◌∷◌, ◌++◌, ltb, length}
use Rattle.words.specs.Words.{word_bytes, all_bytes}
use Rattle.verdict.specs.Judgements.{answer, refuse, and_then, result_after}
use Rattle.verdict.specs.declared.Figures.{Figures}
use Rattle.sizes.specs.Sizes.{inputs, frames}
use Rattle.layered.specs.Search.{tabulate}
use Rattle.table.specs.Table.{states, machine, checked}
use Rattle.paths.specs.Paths.{histories, smallest, of_states}

-- the number of histories that lead from the start to state s of layer t, and the smallest of them, 0 where there is none
abbrev pub histories_to : List ℕ → (t s : ℕ) → ℕ
histories_to b t s = histories (2 ^ inputs b) (machine b) t s

abbrev pub smallest_to : List ℕ → (t s : ℕ) → ℕ
smallest_to b t s = smallest (2 ^ inputs b) (machine b) t s

-- T and the counts of layers 0 to T
unfoldable pub head_words : List ℕ → List ℕ
head_words b = frames b ∷ tabulate (suc (frames b)) (states b)

-- two parallel arrays for all states of layers 0 to T: the number of histories, the smallest history
unfoldable pub state_numbers : List ℕ → List ℕ
unfolding of_states histories smallest
state_numbers b = of_states (frames b) (states b) (histories_to b) ++ of_states (frames b) (states b) (smallest_to b)

-- the bytes: the head as 16-bit words, the arrays as 32-bit words, low byte first
unfoldable pub reach_bytes : List ℕ → List ℕ
unfolding head_words state_numbers
reach_bytes b = word_bytes (head_words b) ++ all_bytes 4 (state_numbers b)

-- 7, of a result with room for so many bytes
unfoldable pub room_checked : (bytes room : ℕ) → Figures
room_checked bytes room = refuse (ltb room bytes) 7 bytes (answer 0 bytes)

-- the table's checks, then 7
unfoldable pub reach_checked : List ℕ → (room : ℕ) → Figures
unfolding room_checked reach_bytes
reach_checked b room = and_then (checked b) (room_checked (length (reach_bytes b)) room)

-- what the result holds after the call
unfoldable pub reach_result : List ℕ → (before : List ℕ) → List ℕ
unfolding reach_checked reach_bytes
reach_result b before = result_after (reach_checked b (length before)) (reach_bytes b) before
