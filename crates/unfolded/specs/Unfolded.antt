-- What unfolding answers and leaves (document 01, "Drawing back into gates"): the gates of a table, as pairs of a left and a right literal,
-- and the circuit's bytes. Frames, words, states and outputs are counted from 0 here; edge e of a frame is that of state e / 2^n and word
-- e % 2^n, so that edges go by state, then word.
use Rattle.std.specs.Prelude.{ℕ, zero, suc, ◌+◌, ◌*◌, ◌-◌, ◌/◌, ◌%◌, ◌^◌, Bool, cond, List, [], ◌∷◌, ◌++◌, ltb, eqb, length, get_or}
use Rattle.words.specs.Words.{word_bytes}
use Rattle.verdict.specs.Judgements.{answer, refuse, and_then, result_after}
use Rattle.verdict.specs.declared.Figures.{Figures}
use Rattle.sizes.specs.Sizes.{inputs, outputs, frames}
use Rattle.circuit.specs.Circuit.{circuit_words, output_gate}
use Rattle.circuit.specs.Limits.{most_gates}
use Rattle.circuit.specs.Lists.{grown, listed, bit}
use Rattle.table.specs.Table.{states, connected, machine, checked, entry_at, outputs_at, nexts_at}

-- ---- chains of gates

-- gates from signal `at` on, one for each right literal; left the previous gate, first: `left`
unfoldable pub chain : (at left : ℕ) → List ℕ → List (ℕ × ℕ)
chain at left [] = []
chain at left (r ∷ rs) = (left, r) ∷ chain (suc at) (2 * at) rs

-- the literal of its last gate; `left` where there is none
unfoldable pub last_of : (at left : ℕ) → List ℕ → ℕ
last_of at left [] = left
last_of at left (r ∷ rs) = last_of (suc at) (2 * at) rs

-- k chains from signal `at` on, one behind the other, each begun with literal 1; chain i has the right literals f i
unfoldable pub chains_from : (at : ℕ) (f : ℕ → List ℕ) (k : ℕ) → List (ℕ × ℕ)
unfolding chain
chains_from at f zero = []
chains_from at f (suc k) = let g : List (ℕ × ℕ) = chains_from at f k in g ++ chain (at + length g) 1 (f k)

-- the literal that chain i ends with: its last gate, or 1
unfoldable pub ending : (at : ℕ) (f : ℕ → List ℕ) (i : ℕ) → ℕ
unfolding chains_from last_of
ending at f i = last_of (at + length (chains_from at f i)) 1 (f i)

-- a literal inverted; a chain without gates ends with 1, so inverted with 0
unfoldable pub inverted : ℕ → ℕ
inverted l = cond (eqb (l % 2) 1) (l - 1) (l + 1)

-- ---- one frame

-- what a frame is drawn from: its number, from 0, and how many inputs and outputs a frame has
pub record Frame : Type 0 where
  pub frame : ℕ
  pub inputs : ℕ
  pub outputs : ℕ
  -- the signal of the first gate of the frame
  pub at : ℕ
  -- the literals of the states that the edges leave
  pub states : List ℕ
  -- how many edges there are, and the next state and the output word of each
  pub edges : ℕ
  pub next : (e : ℕ) → ℕ
  pub out : (e : ℕ) → ℕ
  -- how many next states are drawn
  pub nexts : ℕ

-- input i of frame t, of n to a frame, inverted where that bit of the word w is 0
unfoldable pub input_literal : (n t w i : ℕ) → ℕ
unfolding bit
input_literal n t w i = 2 * (1 + (t * n + i)) + cond (bit w i) 0 1

-- Match: for each word ascending, n gates; left the previous gate (first: literal 1), right input i, inverted where the bit is 0
unfoldable pub matching : (n t w : ℕ) → List ℕ
unfolding input_literal grown
matching n t w = listed [] (input_literal n t w) n

unfoldable pub match_gates : Frame → List (ℕ × ℕ)
unfolding matching chains_from
match_gates F = chains_from F.at (matching F.inputs F.frame) (2 ^ F.inputs)

unfoldable pub match_literal : Frame → (w : ℕ) → ℕ
unfolding matching ending
match_literal F w = ending F.at (matching F.inputs F.frame) w

-- Edges: by state, then word; left the state's literal, right the match
unfoldable pub edges_at : Frame → ℕ
unfolding match_gates
edges_at F = F.at + length (match_gates F)

unfoldable pub edge_gate : Frame → (e : ℕ) → ℕ × ℕ
unfolding match_literal
edge_gate F e = (get_or F.states (e / 2 ^ F.inputs) 0, match_literal F (e % 2 ^ F.inputs))

unfoldable pub edge_gates : Frame → List (ℕ × ℕ)
unfolding edge_gate grown
edge_gates F = listed [] (edge_gate F) F.edges

-- the first k of the edges from signal `at` on, inverted, ascending, as far as the test holds of them
unfoldable pub inverted_edges : (at : ℕ) (test : ℕ → Bool) (k : ℕ) → List ℕ
inverted_edges at test zero = []
inverted_edges at test (suc e) = inverted_edges at test e ++ cond (test e) ((2 * (at + e) + 1) ∷ []) []

-- For each next state, one gate per edge into it, ascending; left the previous (first: 1), right the inverted edge. The state's literal is
-- the last gate inverted, or 0 with no edge.
unfoldable pub next_gates_at : Frame → ℕ
unfolding edges_at edge_gates
next_gates_at F = edges_at F + length (edge_gates F)

unfoldable pub entering : Frame → (s : ℕ) → List ℕ
unfolding inverted_edges edges_at
entering F s = inverted_edges (edges_at F) (λ e. eqb (F.next e) s) F.edges

unfoldable pub next_gates : Frame → List (ℕ × ℕ)
unfolding next_gates_at entering chains_from
next_gates F = chains_from (next_gates_at F) (entering F) F.nexts

unfoldable pub next_literal : Frame → (s : ℕ) → ℕ
unfolding next_gates_at entering ending inverted
next_literal F s = inverted (ending (next_gates_at F) (entering F) s)

-- For each output j, the same over edges whose output has bit j (from 0)
unfoldable pub out_gates_at : Frame → ℕ
unfolding next_gates_at next_gates
out_gates_at F = next_gates_at F + length (next_gates F)

unfoldable pub with_bit : Frame → (j : ℕ) → List ℕ
unfolding inverted_edges edges_at bit
with_bit F j = inverted_edges (edges_at F) (λ e. bit (F.out e) j) F.edges

unfoldable pub out_gates : Frame → List (ℕ × ℕ)
unfolding out_gates_at with_bit chains_from
out_gates F = chains_from (out_gates_at F) (with_bit F) F.outputs

unfoldable pub out_literal : Frame → (j : ℕ) → ℕ
unfolding out_gates_at with_bit ending inverted
out_literal F j = inverted (ending (out_gates_at F) (with_bit F) j)

unfoldable pub frame_gates : Frame → List (ℕ × ℕ)
unfolding match_gates edge_gates next_gates out_gates
frame_gates F = match_gates F ++ (edge_gates F ++ (next_gates F ++ out_gates F))

-- ---- all frames

-- what is drawn of the frames so far: the gates, the literals of the states reached, and those of the outputs
pub record Drawing : Type 0 where
  pub gates : List (ℕ × ℕ)
  pub states : List ℕ
  pub outputs : List ℕ

-- the frame from layer t to layer t + 1; next states are drawn if t + 1 < T. Gate g (from 0) is signal 1 + n·T + g.
unfoldable pub table_frame : List ℕ → (t : ℕ) → Drawing → Frame
unfolding inputs outputs frames states entry_at outputs_at nexts_at
table_frame b t d = record {
  frame = t;
  inputs = inputs b;
  outputs = outputs b;
  at = 1 + inputs b * frames b + length d.gates;
  states = d.states;
  edges = states b t * 2 ^ inputs b;
  next = λ e. (machine b).next t (e / 2 ^ inputs b) (e % 2 ^ inputs b);
  out = λ e. (machine b).out t (e / 2 ^ inputs b) (e % 2 ^ inputs b);
  nexts = cond (ltb (suc t) (frames b)) (states b (suc t)) 0;
}

unfoldable pub with_frame : Drawing → Frame → Drawing
unfolding frame_gates next_literal out_literal grown
with_frame d F = record {
  gates = d.gates ++ frame_gates F;
  states = listed [] (next_literal F) F.nexts;
  outputs = d.outputs ++ listed [] (out_literal F) F.outputs;
}

-- the first t frames; the start's literal is 1
unfoldable pub drawing : List ℕ → (t : ℕ) → Drawing
unfolding table_frame with_frame
drawing b zero = record { gates = []; states = 1 ∷ []; outputs = [] }
drawing b (suc t) = let d : Drawing = drawing b t in with_frame d (table_frame b t d)

-- output q, counted over all frames, is connected
unfoldable pub is_connected : List ℕ → (q : ℕ) → Bool
unfolding bit connected outputs
is_connected b q = bit (connected b (q / outputs b)) (q % outputs b)

-- After all frames come the m·T output gates: left the last gather gate inverted (none: 0)
unfoldable pub drawn : List ℕ → List (ℕ × ℕ)
unfolding drawing is_connected grown outputs frames
drawn b = let d : Drawing = drawing b (frames b) in d.gates ++ listed [] (λ q. output_gate (is_connected b q) (get_or d.outputs q 0)) (outputs b * frames b)

-- ---- the circuit

unfoldable pub gates_needed : List ℕ → ℕ
unfolding drawn
gates_needed b = length (drawn b)

unfoldable pub unfolded_bytes : List ℕ → List ℕ
unfolding circuit_words word_bytes drawn inputs outputs frames
unfolded_bytes b = word_bytes (circuit_words (inputs b) (outputs b) (frames b) (drawn b))

-- 8, then 7, of a circuit of so many gates and bytes
unfoldable pub drawn_checked : (gates bytes room : ℕ) → Figures
drawn_checked gates bytes room =
    refuse (ltb most_gates gates) 8 gates
    (refuse (ltb room bytes) 7 bytes
    (answer 0 bytes))

-- the table's checks, then 8, then 7
unfoldable pub unfold_checked : List ℕ → (room : ℕ) → Figures
unfolding checked drawn_checked gates_needed unfolded_bytes
unfold_checked b room = and_then (checked b) (drawn_checked (gates_needed b) (length (unfolded_bytes b)) room)

-- what the result holds after unfolding
unfoldable pub unfold_result : List ℕ → (before : List ℕ) → List ℕ
unfolding unfold_checked unfolded_bytes
unfold_result b before = result_after (unfold_checked b (length before)) (unfolded_bytes b) before
