-- What folding answers and leaves: the table of the circuit's response, as bytes.
use Rattle.std.specs.Prelude.{ℕ, suc, ◌*◌, ◌^◌, cond, List, ◌++◌, ltb, eqb, length, drop, replicate}
use Rattle.words.specs.Words.{word_bytes}
use Rattle.verdict.specs.Judgements.{answer, refuse, and_then, refuse_first, result_after}
use Rattle.verdict.specs.declared.Figures.{Figures}
use Rattle.sizes.specs.Sizes.{inputs, outputs, frames}
use Rattle.layered.specs.Machines.{table_words, folded}
use Rattle.circuit.specs.Circuit.{gates, checked, all_inputs, connected_outputs}
use Rattle.circuit.specs.Theorems.{response}
use Rattle.functions.specs.Functions.{nodes_to}
use Rattle.nodes.specs.declared.Node.{Node}
use Rattle.records.specs.Records.{none}

-- the bytes of the circuit's table (document 01, "The sheet" and "States"; document 02, Point 8)
unfoldable pub folded_bytes : List ℕ → List ℕ
folded_bytes b = word_bytes (table_words (inputs b) (outputs b) (2 ^ inputs b) (frames b) (connected_outputs b) (folded (2 ^ inputs b) (frames b) (response b)))

-- how many scratch numbers are needed
unfoldable pub scratch_needed : List ℕ → ℕ
scratch_needed b = 2 * 2 ^ all_inputs b

-- 6
abbrev pub six_checked : (needed scratch_room : ℕ) → Figures
six_checked needed scratch_room = refuse (ltb scratch_room needed) 6 needed (answer 0 0)

-- what is judged before anything that is lent is used: the circuit's checks, then 6
unfoldable pub scratch_checked : List ℕ → (scratch_room : ℕ) → Figures
scratch_checked b scratch_room = and_then (checked b) (six_checked (scratch_needed b) scratch_room)

-- 18 at g: the inputs and gates 1 to g have more distinct nodes than there are records, and g is the smallest such (document 02, Point 10)
unfoldable pub nodes_checked : List ℕ → (node_room : ℕ) → Figures
nodes_checked b node_room = refuse_first (λ g. ltb node_room (nodes_to b g)) 18 (λ g. g) (answer 0 0) 0 (suc (gates b))

-- what is judged before a circuit's table is known: its checks, 6, 18
unfoldable pub ask_checked : List ℕ → (scratch_room node_room : ℕ) → Figures
ask_checked b scratch_room node_room = and_then (scratch_checked b scratch_room) (nodes_checked b node_room)

-- and what is judged once its table is known: 7
unfoldable pub room_checked : List ℕ → (result_room : ℕ) → Figures
room_checked b result_room =
    refuse (ltb result_room (length (folded_bytes b))) 7 (length (folded_bytes b))
    (answer 0 (length (folded_bytes b)))

-- what folding answers
unfoldable pub fold_checked : List ℕ → (scratch_room node_room result_room : ℕ) → Figures
fold_checked b scratch_room node_room result_room = and_then (ask_checked b scratch_room node_room) (room_checked b result_room)

-- what the result holds after folding
unfoldable pub fold_result : List ℕ → (scratch_room node_room : ℕ) (before : List ℕ) → List ℕ
fold_result b scratch_room node_room before = result_after (fold_checked b scratch_room node_room (length before)) (folded_bytes b) before

-- the scratch with the needed numbers zero, the rest as before
abbrev pub cleared_to : (needed : ℕ) (before : List ℕ) → List ℕ
cleared_to needed before = replicate needed 0 ++ drop needed before

unfoldable pub cleared : (b before : List ℕ) → List ℕ
cleared b before = cleared_to (scratch_needed b) before

-- what the scratch holds after it: cleared where the circuit's checks and 6 pass, whatever is judged then; else as before
unfoldable pub scratch_after : (b before : List ℕ) → List ℕ
scratch_after b before = cond (eqb (scratch_checked b (length before)).number 0) (cleared b before) before

-- and what the list of records holds: all of it cleared in the same cases
unfoldable pub nodes_after : (b : List ℕ) (scratch_room : ℕ) (before : List Node) → List Node
nodes_after b scratch_room before = cond (eqb (scratch_checked b scratch_room).number 0) (replicate (length before) none) before
