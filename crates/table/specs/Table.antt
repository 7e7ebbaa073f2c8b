-- The table format (document 01's sheet), its judgement, and its meaning as a layered machine.
use Rattle.std.specs.Prelude.{ℕ, suc, ◌+◌, ◌*◌, ◌/◌, ◌^◌, Bool, not, ◌||◌, cond, List, ltb, leb, eqb, length, take, drop}
use Rattle.std.specs.Int.Bits.{bit_and}
use Rattle.words.specs.Words.{word_at}
use Rattle.verdict.specs.Judgements.{answer, refuse, and_then, refuse_first, first_refusal}
use Rattle.verdict.specs.declared.Figures.{Figures}
use Rattle.sizes.specs.Sizes.{inputs, outputs, frames, outside, sizes_checked}
use Rattle.sizes.specs.Limits.{most_inputs}
use Rattle.layered.specs.Search.{total}
use Rattle.layered.specs.Machines.{Machine}
use Rattle.table.specs.Limits.{sizes_length, end_states, most_states}

-- ---- where things stand

-- byte offset of the count of layer t
unfoldable pub count_at : (t : ℕ) → ℕ
count_at t = sizes_length + 2 * t

-- S t of document 01: how many states layer t has
unfoldable pub states : List ℕ → (t : ℕ) → ℕ
states b t = word_at b (count_at t)

-- byte offset, in a table of T frames, of the word that tells the connected outputs of the frame from layer t
unfoldable pub connected_at : (T t : ℕ) → ℕ
connected_at T t = count_at (suc T) + 2 * t

-- the connected outputs of the frame from layer t, bit j - 1 for output j (document 02, Point 8: the outputs that are fitted)
unfoldable pub connected : List ℕ → (t : ℕ) → ℕ
connected b t = word_at b (connected_at (frames b) t)

-- length of the head: the sizes, the counts of layers 0 to T, and the connected outputs of T frames
unfoldable pub head_length : (T : ℕ) → ℕ
head_length T = connected_at T T

-- S0 + .. + S(t-1): how many states the layers below t have
unfoldable pub states_below : List ℕ → (t : ℕ) → ℕ
states_below b t = total t (states b)

-- how many entries they have: each state has one for each word
unfoldable pub entries_below : List ℕ → (t : ℕ) → ℕ
entries_below b t = states_below b t * 2 ^ inputs b

-- E of document 01
unfoldable pub entry_count : List ℕ → ℕ
entry_count b = entries_below b (frames b)

-- byte offsets of the array of outputs and of the array of next states, and the length of the whole
unfoldable pub outputs_at : List ℕ → ℕ
outputs_at b = head_length (frames b)

unfoldable pub nexts_at : List ℕ → ℕ
nexts_at b = outputs_at b + 2 * entry_count b

unfoldable pub table_length : List ℕ → ℕ
table_length b = nexts_at b + 2 * entry_count b

-- byte offset, in the array that starts at `start`, of the entry of state s of layer t and word w
unfoldable pub entry_at : List ℕ → (start t s w : ℕ) → ℕ
entry_at b start t s w = start + 2 * (entries_below b t + (s * 2 ^ inputs b + w))

-- the part of the array at `start` that belongs to layer t
unfoldable pub layer_part : List ℕ → (start t : ℕ) → List ℕ
layer_part b start t = take (2 * (states b t * 2 ^ inputs b)) (drop (start + 2 * entries_below b t) b)

-- the machine that a table is, with start 0
abbrev pub machine : List ℕ → Machine
machine b = record {
  states = states b;
  start = 0;
  out = λ t s w. word_at b (entry_at b (outputs_at b) t s w);
  next = λ t s w. word_at b (entry_at b (nexts_at b) t s w);
}

-- ---- the check

-- 2, of the counts: first and last are 1, others 1 to 32,768
unfoldable pub counts_checked : List ℕ → Figures
counts_checked b =
    refuse_first (λ t. outside 1 (cond (eqb t 0 || eqb t (frames b)) end_states most_states) (states b t)) 2 count_at (answer 0 0) 0 (suc (frames b))

-- 2, of the connected outputs: each word is below 2^m
unfoldable pub connected_checked : List ℕ → Figures
connected_checked b = refuse_first (λ t. leb (2 ^ outputs b) (connected b t)) 2 (connected_at (frames b)) (answer 0 0) 0 (frames b)

-- 1 (six bytes), 2 (n, m, T), 1 (head), 2 (counts), 2 (connected outputs), 1 (length): all of the order before 5
unfoldable pub head_checked : List ℕ → Figures
head_checked b =
    refuse (ltb (length b) sizes_length) 1 (length b)
    (and_then (sizes_checked most_inputs (inputs b) (outputs b) (frames b))
    (refuse (ltb (length b) (head_length (frames b))) 1 (length b)
    (and_then (counts_checked b)
    (and_then (connected_checked b)
    (refuse (not (eqb (length b) (table_length b))) 1 (length b)
    (answer 0 0))))))

-- x has a bit that c has not
unfoldable pub strays : (c x : ℕ) → Bool
strays c x = not (eqb (bit_and x c) x)

-- an output of the frame from layer t is bad where a bit of it is not connected, 2^m or more included
unfoldable pub bad_output : List ℕ → (t x : ℕ) → Bool
bad_output b t x = strays (connected b t) x

-- a next state is bad where layer t + 1 has no such state
unfoldable pub bad_next : List ℕ → (t x : ℕ) → Bool
bad_next b t x = leb (states b (suc t)) x

-- 5, of a part of an array that stands at byte offset `at`: its first bad word
unfoldable pub part_checked : (bad : ℕ → Bool) (at : ℕ) → List ℕ → Figures
part_checked bad at part = refuse_first (λ i. bad (word_at part (2 * i))) 5 (λ i. at + 2 * i) (answer 0 0) 0 (length part / 2)

-- 5, of the array at `start`, layer by layer
unfoldable pub array_checked : List ℕ → (start : ℕ) (bad : (t x : ℕ) → Bool) → Figures
array_checked b start bad = first_refusal (λ t. part_checked (bad t) (start + 2 * entries_below b t) (layer_part b start t)) 0 (frames b)

-- 5, of all outputs, then of all next states
unfoldable pub entries_checked : List ℕ → Figures
entries_checked b = and_then (array_checked b (outputs_at b) (bad_output b)) (array_checked b (nexts_at b) (bad_next b))

-- the verdict on a table
unfoldable pub checked : List ℕ → Figures
checked b = and_then (head_checked b) (entries_checked b)
