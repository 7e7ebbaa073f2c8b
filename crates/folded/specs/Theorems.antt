-- Demands 2 and 3, of the bytes, and what holds of asking and committing. b is a circuit; t are the bytes that folding it wrote. The table is the machine that the bytes are, with
-- start 0; its states are those that it reaches when fed; the outputs of a circuit are what its simulation gives.
use Rattle.std.specs.Prelude.{ℕ, ◌+◌, ◌-◌, ◌^◌, ◌≤◌, ◌<◌, ◌≡◌, ◌↔◌, true, cond, List, ◌∷◌, ◌++◌, eqb, length, get_or, take, drop}
use Rattle.verdict.specs.Judgements.{answer, and_then, result_after}
use Rattle.sizes.specs.Sizes.{inputs, outputs, frames}
use Rattle.layered.specs.States.{Words}
use Rattle.layered.specs.Histories.{history_number}
use Rattle.layered.specs.Machines.{Machine, Legal, feed, reached, Gives, Renumbered, masked}
use Rattle.circuit.specs.Lists.{bit}
use Rattle.circuit.specs.Circuit.{gates, connects, connected_outputs, output_words}
use Rattle.circuit.specs.Circuit as circuit
use Rattle.table.specs.Table.{states, connected, machine, checked}
use Rattle.functions.specs.Functions.{nodes_to}
use Rattle.folded.specs.Folded.{folded_bytes, scratch_checked, ask_checked, room_checked, fold_checked, fold_result, cleared, scratch_after}
use Rattle.folded.specs.Planned.{plan_of, asked, commit_checked, commit_result}

-- the state of the table that the history c comes to
unfoldable pub state_of : List ℕ → List ℕ → ℕ
state_of t c = reached (machine t) 0 0 c

-- c is the smallest of the histories of its length that come to the same state
unfoldable pub Smallest : (K : ℕ) (t c : List ℕ) → Type 0
Smallest K t c = (d : List ℕ) → Words K (length c) d → state_of t d ≡ state_of t c → history_number K 0 c ≤ history_number K 0 d

-- M matches the circuit b: on every sequence it gives b's outputs in connected bits. Its other bits are free, and masked out here; b's are 0.
unfoldable pub Matches : (K T : ℕ) (b : List ℕ) → Machine → Type 0
Matches K T b M = Gives K T (masked (connected_outputs b) M) (output_words b)

-- what that means of an accepted circuit, bit by bit: wherever output j of frame k, both from 0, is connected, M gives its value
unfoldable pub MatchesBits : Type 0
MatchesBits = (b : List ℕ) (p : ℕ) (M : Machine) → circuit.checked b ≡ answer 0 p → Matches (2 ^ inputs b) (frames b) b M
    ↔ ((c : List ℕ) → Words (2 ^ inputs b) (frames b) c → (k j : ℕ) → k < frames b → j < outputs b → connects b k j ≡ true
    → bit (get_or (feed M 0 M.start c) k 0) j ≡ bit (get_or (output_words b c) k 0) j)

module _ (K m T : ℕ) (b t : List ℕ) where
  -- of the circuit b with 2^n = K, m outputs and T frames
  pub record Folding : Type 0 where
    -- the sizes are the circuit's
    pub same_inputs : inputs t ≡ inputs b
    pub same_outputs : outputs t ≡ outputs b
    pub same_frames : frames t ≡ frames b
    -- the same outputs are connected
    pub same_connected : (k : ℕ) → k < T → connected t k ≡ connected_outputs b k
    -- two histories of equal length reach the same state exactly when no continuation tells them apart
    pub apart : (k : ℕ) (c d : List ℕ) → k ≤ T → Words K k c → Words K k d
        → (state_of t c ≡ state_of t d) ↔ ((e : List ℕ) → Words K (T - k) e → drop k (output_words b (c ++ e)) ≡ drop k (output_words b (d ++ e)))
    -- every state is reached
    pub every_state : (k s : ℕ) → k ≤ T → s < states t k → (c : List ℕ) × Words K k c × (state_of t c ≡ s)
    -- a layer's states are numbered by their smallest history
    pub in_order : (k : ℕ) (c d : List ℕ) → k ≤ T → Words K k c → Words K k d → Smallest K t c → Smallest K t d → history_number K 0 c < history_number K 0 d
        → state_of t c < state_of t d
    -- the bytes pass every check, and run from the start they give the circuit's outputs on every sequence
    pub legal : checked t ≡ answer 0 0
    pub gives : Gives K T (machine t) (output_words b)
    -- fewest: every layered machine that matches the circuit has at each layer at least as many states
    pub fewest : (M : Machine) → Legal K m T M → Matches K T b M → (k : ℕ) → k ≤ T → states t k ≤ M.states k
    -- unique: the counts are equal at all layers exactly when the machine is the table renumbered within layers, outputs equal in connected bits
    pub unique : (M : Machine) → Legal K m T M → Matches K T b M
        → ((k : ℕ) → k ≤ T → states t k ≡ M.states k) ↔ Renumbered K T (machine t) (masked (connected_outputs b) M)

  -- canonical: for another circuit of equal sizes that is accepted and folded, the same bytes exactly when the two agree on every sequence and
  -- connect the same outputs
  unfoldable pub Canonical : Type 0
  Canonical = (d before : List ℕ) (room nodes p : ℕ) → inputs d ≡ inputs b → outputs d ≡ outputs b → frames d ≡ frames b
      → fold_checked d room nodes (length before) ≡ answer 0 p
      → (t ≡ take p (fold_result d room nodes before))
      ↔ (((c : List ℕ) → Words K T c → output_words b c ≡ output_words d c) × ((k : ℕ) → k < T → connected_outputs b k ≡ connected_outputs d k))

-- whatever folding accepts
unfoldable pub Foldings : Type 0
Foldings = (b before : List ℕ) (room nodes p : ℕ) → fold_checked b room nodes (length before) ≡ answer 0 p
    → Folding (2 ^ inputs b) (outputs b) (frames b) b (take p (fold_result b room nodes before))
    × Canonical (2 ^ inputs b) (outputs b) (frames b) b (take p (fold_result b room nodes before))

-- with records for all nodes 18 plays no part: asking and folding answer and write what the circuit's checks, 6 and 7 alone decide
unfoldable pub EnoughNodes : Type 0
EnoughNodes = (b before : List ℕ) (room nodes : ℕ) → nodes_to b (gates b) ≤ nodes
    → (ask_checked b room nodes ≡ scratch_checked b room)
    × (fold_checked b room nodes (length before) ≡ and_then (scratch_checked b room) (room_checked b (length before)))
    × (fold_result b room nodes before ≡ result_after (and_then (scratch_checked b room) (room_checked b (length before))) (folded_bytes b) before)

-- more records never change what folding accepts: neither the figures nor the bytes
unfoldable pub MoreNodes : Type 0
MoreNodes = (b before : List ℕ) (room nodes p more : ℕ) → fold_checked b room nodes (length before) ≡ answer 0 p → nodes ≤ more
    → (fold_checked b room more (length before) ≡ answer 0 p) × (fold_result b room more before ≡ fold_result b room nodes before)

-- what 18 means: it is answered at g exactly when the circuit's checks and 6 pass, the inputs and gates 1 to g have more distinct nodes than there are
-- records, and with fewer gates there are none too many
unfoldable pub TooManyNodes : Type 0
TooManyNodes = (b : List ℕ) (room nodes g : ℕ)
    → (ask_checked b room nodes ≡ answer 18 g) ↔ ((scratch_checked b room ≡ answer 0 0) × (g ≤ gates b) × (nodes < nodes_to b g) × ((k : ℕ) → k < g → nodes_to b k ≤ nodes))

-- of the plan that asking returns for the circuit b with so much scratch and so many records
pub record Asking (b : List ℕ) (room nodes : ℕ) (plan : List ℕ) : Type 0 where
  -- folding with as much scratch and as many records accepts and writes the plan's bytes where the result has room for them; where it has less, 7 asks for as many
  pub enough : (x : ℕ) → get_or plan 20 0 ≤ x → fold_checked b room nodes x ≡ answer 0 (get_or plan 20 0)
  pub too_short : (x : ℕ) → x < get_or plan 20 0 → fold_checked b room nodes x ≡ answer 7 (get_or plan 20 0)
  -- whatever folding writes has the plan's sizes, counts and bytes
  pub as_folded : (before : List ℕ) (scratch_room node_room p : ℕ) → fold_checked b scratch_room node_room (length before) ≡ answer 0 p
      → plan ≡ plan_of (take p (fold_result b scratch_room node_room before))
  -- every layered machine that matches the circuit has at each layer at least as many states as the plan counts
  pub fewest : (M : Machine) → Legal (2 ^ inputs b) (outputs b) (frames b) M → Matches (2 ^ inputs b) (frames b) b M
      → (k : ℕ) → k ≤ frames b → get_or plan (3 + k) 0 ≤ M.states k

-- whatever asking returns
unfoldable pub Askings : Type 0
Askings = (b : List ℕ) (room nodes : ℕ) (plan : List ℕ) → asked b room nodes ≡ 0 ∷ 0 ∷ plan → Asking b room nodes plan

-- of committing to a plan for the circuit b, with this scratch, so many records and this result
pub record Committing (b plan scratch : List ℕ) (nodes : ℕ) (result : List ℕ) : Type 0 where
  -- with the plan that asking returned, whatever it was lent, it answers and writes what folding does (and leaves of what it is lent what folding
  -- does with any plan, by one definition)
  pub as_folding : (room records : ℕ) → asked b room records ≡ 0 ∷ 0 ∷ plan
      → (commit_checked b plan (length scratch) nodes (length result) ≡ fold_checked b (length scratch) nodes (length result))
      × (commit_result b plan (length scratch) nodes result ≡ fold_result b (length scratch) nodes result)
  -- with any other, where asking with this scratch and as many records returns one, it is 14: the result untouched, the scratch cleared
  pub other_plan : (its : List ℕ) → asked b (length scratch) nodes ≡ 0 ∷ 0 ∷ its → ¬ (plan ≡ its)
      → (commit_checked b plan (length scratch) nodes (length result) ≡ answer 14 0)
      × (commit_result b plan (length scratch) nodes result ≡ result)
      × (scratch_after b scratch ≡ cleared b scratch)
  -- with any plan, where asking with this scratch and as many records refuses, it refuses alike, and the result is untouched; where that is not 18,
  -- nothing changes
  pub as_asking : (number place : ℕ) (none : List ℕ) → asked b (length scratch) nodes ≡ number ∷ place ∷ none → ¬ (number ≡ 0)
      → (commit_checked b plan (length scratch) nodes (length result) ≡ answer number place)
      × (commit_result b plan (length scratch) nodes result ≡ result)
      × (scratch_after b scratch ≡ cond (eqb number 18) (cleared b scratch) scratch)
