-- The merged level of a table (document 02, Point 13): one machine for all frames, in bytes, and the judgement of the call. Which machine it is, is in
-- crate `merged`: of those that match the table with the fewest states, one to three, the first in dictionary order.
use Rattle.std.specs.Prelude.{ℕ, ◌^◌, List, ◌∷◌, ◌++◌, ltb, length}
use Rattle.words.specs.Words.{word_bytes}
use Rattle.verdict.specs.Judgements.{answer, refuse, and_then, result_after}
use Rattle.verdict.specs.declared.Figures.{Figures}
use Rattle.sizes.specs.Sizes.{inputs, outputs, frames}
use Rattle.layered.specs.Search.{tabulate}
use Rattle.table.specs.Limits.{sizes_length}
use Rattle.table.specs.Table.{connected, machine, checked}
use Rattle.merged.specs.Merged.{Target, Merged, entries_of, most_merged, fewest_states, first_machine}

-- the largest n of a table that is merged
abbrev pub most_merged_inputs : ℕ
most_merged_inputs = 2

-- what is to be matched: the machine that the table b is, in its connected outputs
abbrev pub target : List ℕ → Target
target b = record { K = 2 ^ inputs b; m = outputs b; T = frames b; machine = machine b; connected = connected b }

-- the words of a machine: n, m, the state count, all outputs, all next states, each by state and word
unfoldable pub machine_words : List ℕ → Merged → List ℕ
machine_words b G =
    let L = entries_of (target b) G.states in
    inputs b ∷ outputs b ∷ G.states ∷ tabulate L G.out ++ tabulate L G.next

-- the bytes: those words, low byte first
unfoldable pub merge_bytes : List ℕ → List ℕ
unfolding machine_words
merge_bytes b = word_bytes (machine_words b (first_machine (target b)))

-- 1 (six bytes), 2 (n at most 2): n's limit is judged where the table's checks judge it, with the sizes
unfoldable pub narrow_checked : List ℕ → Figures
narrow_checked b = refuse (ltb (length b) sizes_length) 1 (length b) (refuse (ltb most_merged_inputs (inputs b)) 2 0 (answer 0 0))

-- 21: no machine of one to three states matches; 7: room for fewer bytes than are needed
unfoldable pub machine_checked : List ℕ → (room : ℕ) → Figures
unfolding merge_bytes
machine_checked b room =
    refuse (ltb most_merged (fewest_states (target b))) 21 0
    (refuse (ltb room (length (merge_bytes b))) 7 (length (merge_bytes b))
    (answer 0 (length (merge_bytes b))))

-- the table's checks with n at most 2, 21, 7
unfoldable pub merge_checked : List ℕ → (room : ℕ) → Figures
unfolding narrow_checked machine_checked
merge_checked b room = and_then (narrow_checked b) (and_then (checked b) (machine_checked b room))

-- what the result holds after the call
unfoldable pub merge_result : List ℕ → (before : List ℕ) → List ℕ
unfolding merge_checked merge_bytes
merge_result b before = result_after (merge_checked b (length before)) (merge_bytes b) before
