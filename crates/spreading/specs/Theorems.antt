-- What is proved of the bytes that spreading wrote. r is the network rearranged; the outputs of the network are what its simulation gives.
use Rattle.std.specs.Prelude.{ℕ, ◌+◌, ◌*◌, ◌/◌, ◌%◌, ◌^◌, ◌≤◌, ◌<◌, ◌≡◌, ◌↔◌, List, [], ◌∷◌, length, get_or, take}
use Rattle.verdict.specs.Judgements.{answer}
use Rattle.verdict.specs.declared.Figures.{Figures}
use Rattle.sizes.specs.Sizes.{inputs, outputs}
use Rattle.layered.specs.States.{Words}
use Rattle.layered.specs.Machines.{feed}
use Rattle.circuit.specs.Lists.{bit}
use Rattle.circuit.specs.Limits.{most_gates}
use Rattle.circuit.specs.Circuit.{gates, all_inputs, all_outputs, connected_outputs, output_words}
use Rattle.table.specs.Table.{machine}
use Rattle.source.specs.Rearranged.{rearranged}
use Rattle.nodes.specs.declared.Node.{Node}
use Rattle.folded.specs.Folded.{fold_checked, fold_result, scratch_after, nodes_after}
use Rattle.folded.specs.Theorems.{Folding, Canonical}
use Rattle.spreading.specs.Spread.{schedule_checked, spread_checked, spread_result, spread_scratch, spread_nodes}

-- the word a has, in the words of a sequence, each of its bits at that input's place: place p is bit p mod n of word p div n
unfoldable pub Places : (N n : ℕ) (ins : List ℕ) (a : ℕ) (words : List ℕ) → Type 0
Places N n ins a words = (i : ℕ) → i < N → bit (get_or words (get_or ins i 0 / n) 0) (get_or ins i 0 % n) ≡ bit a i

module _ (c : List ℕ) (n m T : ℕ) (ins outs t : List ℕ) where
  -- of the bytes t that spreading the network c wrote
  pub record Spreading : Type 0 where
    -- demands 2 and 3 hold of them, and of the network rearranged, as of whatever folding writes
    pub folding : Folding (2 ^ n) m T (rearranged c n m T ins outs) t
    pub canonical : Canonical (2 ^ n) m T (rearranged c n m T ins outs) t
    -- recovered: on every assignment a of the network's inputs, and any words in unnamed places, running the table gives each of the network's outputs at its place
    pub recovered : (a : ℕ) (words : List ℕ) → a < 2 ^ all_inputs c → Words (2 ^ n) T words → Places (all_inputs c) n ins a words
        → (k : ℕ) → k < all_outputs c → bit (get_or (feed (machine t) 0 0 words) (get_or outs k 0 / m) 0) (get_or outs k 0 % m) ≡ bit (get_or (output_words c (a ∷ [])) 0 0) k
    -- and there is a sequence with each assignment
    pub assigned : (a : ℕ) → a < 2 ^ all_inputs c → (words : List ℕ) × Words (2 ^ n) T words × Places (all_inputs c) n ins a words
    -- for another network that is spread, by whatever lists, the same bytes exactly when the two, rearranged, agree on every sequence and connect the same places
    pub among : (d ins' outs' before : List ℕ) (room nodes p : ℕ) → spread_checked d n m T ins' outs' room nodes (length before) ≡ answer 0 p
        → (t ≡ take p (spread_result d n m T ins' outs' room nodes before))
        ↔ (((words : List ℕ) → Words (2 ^ n) T words → output_words (rearranged c n m T ins outs) words ≡ output_words (rearranged d n m T ins' outs') words)
        × ((k : ℕ) → k < T → connected_outputs (rearranged c n m T ins outs) k ≡ connected_outputs (rearranged d n m T ins' outs') k))
    -- another network with equal outputs and the same lists gets the same bytes
    pub alike : (d before : List ℕ) (room nodes p : ℕ) → spread_checked d n m T ins outs room nodes (length before) ≡ answer 0 p → inputs d ≡ inputs c → outputs d ≡ outputs c
        → ((a : ℕ) → a < 2 ^ all_inputs c → output_words c (a ∷ []) ≡ output_words d (a ∷ [])) → connected_outputs c 0 ≡ connected_outputs d 0
        → t ≡ take p (spread_result d n m T ins outs room nodes before)

-- whatever spreading accepts
unfoldable pub Spreadings : Type 0
Spreadings = (c : List ℕ) (n m T : ℕ) (ins outs before : List ℕ) (room nodes p : ℕ) → spread_checked c n m T ins outs room nodes (length before) ≡ answer 0 p
    → Spreading c n m T ins outs (take p (spread_result c n m T ins outs room nodes before))

-- of the bytes that a call with these figures left at the front of the result
unfoldable pub Spread : (c : List ℕ) (n m T : ℕ) (ins outs : List ℕ) → Figures → (result : List ℕ) → Type 0
Spread c n m T ins outs f result = (p : ℕ) → f ≡ answer 0 p → Spreading c n m T ins outs (take p result)

-- where the network rearranged is a circuit within the limits, spreading answers, writes and leaves from number 4 on what folding it does
unfoldable pub AsFolding : Type 0
AsFolding = (c : List ℕ) (n m T : ℕ) (ins outs : List ℕ) (scratch : List ℕ) (nodes : List Node) (result : List ℕ)
    → schedule_checked c n m T ins outs ≡ answer 0 0 → gates c + m * T ≤ most_gates
    → (spread_checked c n m T ins outs (length scratch) (length nodes) (length result) ≡ fold_checked (rearranged c n m T ins outs) (length scratch) (length nodes) (length result))
    × (spread_result c n m T ins outs (length scratch) (length nodes) result ≡ fold_result (rearranged c n m T ins outs) (length scratch) (length nodes) result)
    × (spread_scratch c n m T ins outs scratch ≡ scratch_after (rearranged c n m T ins outs) scratch)
    × (spread_nodes c n m T ins outs (length scratch) nodes ≡ nodes_after (rearranged c n m T ins outs) (length scratch) nodes)

-- 18 is of the network's own gates: those that show its outputs have no nodes of their own
unfoldable pub OwnGates : Type 0
OwnGates = (c : List ℕ) (n m T : ℕ) (ins outs : List ℕ) (room nodes x g : ℕ) → spread_checked c n m T ins outs room nodes x ≡ answer 18 g → g ≤ gates c
