-- The circuit format (document 01's chart), its judgement, and its outputs on a sequence. Gates, inputs and outputs are counted from 0 here, and from 1
-- in document 01; frames are counted from 1 by `frame_of`, and from 0 where an output word is meant.
use Rattle.std.specs.Prelude.{ℕ, suc, ◌+◌, ◌*◌, ◌-◌, ◌/◌, ◌%◌, ◌^◌, List, [], ◌∷◌, ◌++◌, map, Bool, false, not, ◌&&◌, cond, length, get_or, take, drop, ltb, leb, eqb}
use Rattle.std.specs.Bool.{beq}
use Rattle.words.specs.Words.{word_at}
use Rattle.verdict.specs.Judgements.{answer, refuse, and_then, refuse_first}
use Rattle.verdict.specs.declared.Figures.{Figures}
use Rattle.sizes.specs.Sizes.{inputs, outputs, frames, outside, sizes_checked}
use Rattle.sizes.specs.Limits.{most_inputs, most_frames, most_bits}
use Rattle.layered.specs.Search.{every}
use Rattle.layered.specs.Histories.{history_words}
use Rattle.circuit.specs.Limits.{circuit_head, most_gates, mark}
use Rattle.circuit.specs.Lists.{grown, listed, bit, packed, block_start}

-- ---- where things stand

-- G of document 01
unfoldable pub gates : List ℕ → ℕ
gates b = word_at b 6

-- byte offsets of the left and of the right literals, and the length of the whole
unfoldable pub lefts_at : List ℕ → ℕ
lefts_at b = circuit_head

unfoldable pub rights_at : List ℕ → ℕ
rights_at b = circuit_head + 2 * gates b

unfoldable pub circuit_length : List ℕ → ℕ
circuit_length b = circuit_head + 4 * gates b

-- gate g's literal of the array at byte offset `start`
unfoldable pub literal_at : List ℕ → (start g : ℕ) → ℕ
literal_at b start g = word_at b (start + 2 * g)

-- how many inputs and outputs there are over all frames
unfoldable pub all_inputs : List ℕ → ℕ
all_inputs b = inputs b * frames b

unfoldable pub all_outputs : List ℕ → ℕ
all_outputs b = outputs b * frames b

-- the signal of gate g: the constant and all inputs come before the gates
unfoldable pub gate_signal : List ℕ → (g : ℕ) → ℕ
gate_signal b g = 1 + all_inputs b + g

-- the gate of output q, counted over all frames: the last gates are the outputs; and its signal
abbrev pub gate_of_output : List ℕ → (q : ℕ) → ℕ
gate_of_output b q = gates b - all_outputs b + q

unfoldable pub output_signal : List ℕ → (q : ℕ) → ℕ
output_signal b q = gate_signal b (gate_of_output b q)

-- gate g is an unconnected output (document 02, Point 8: nothing is fitted): one of the last gates, with the mark as both literals
unfoldable pub unconnected : List ℕ → (g : ℕ) → Bool
unconnected b g = leb (gates b - all_outputs b) g && (eqb (literal_at b (lefts_at b) g) mark && eqb (literal_at b (rights_at b) g) mark)

-- output j of frame t, both from 0, is connected
abbrev pub connects : List ℕ → (t j : ℕ) → Bool
connects b t j = not (unconnected b (gate_of_output b (outputs b * t + j)))

-- the connected outputs of frame t as a word, bit j for output j
unfoldable pub connected_outputs : List ℕ → (t : ℕ) → ℕ
connected_outputs b t = packed (listed [] (connects b t) (outputs b))

-- the frame, from 1, of item i of a row with so many items to a frame: of an input, or of an output
unfoldable pub frame_of : (per i : ℕ) → ℕ
frame_of per i = suc (i / per)

-- ---- writing one

-- n, m, T, G, the left literals, the right literals
unfoldable pub circuit_words : (n m T : ℕ) → List (ℕ × ℕ) → List ℕ
circuit_words n m T gs = n ∷ m ∷ T ∷ length gs ∷ (map (λ g. g.0) gs ++ map (λ g. g.1) gs)

-- an output gate that shows a literal: right literal 1; both the mark where the output is unconnected
abbrev pub output_gate : (connected : Bool) (literal : ℕ) → ℕ × ℕ
output_gate connected literal = cond connected (literal, 1) (mark, mark)

-- ---- the check

-- 1 (head), 2, 1; `most` is the largest n, and `long` the largest T
unfoldable pub head_checked : (most long : ℕ) → List ℕ → Figures
head_checked most long b =
    refuse (ltb (length b) circuit_head) 1 (length b)
    (and_then (sizes_checked most (inputs b) (outputs b) (frames b))
    (refuse (ltb long (frames b)) 2 4
    (refuse (outside (all_outputs b) most_gates (gates b)) 2 6
    (refuse (not (eqb (length b) (circuit_length b))) 1 (length b)
    (answer 0 0)))))

-- a literal is of an unconnected output
unfoldable pub of_unconnected : List ℕ → (literal : ℕ) → Bool
of_unconnected b literal = ltb (all_inputs b) (literal / 2) && unconnected b (literal / 2 - gate_signal b 0)

-- a literal of gate g is admissible: of the earlier signals it may be of each but an unconnected output; beyond them it may only be gate g's mark,
-- which both literals are where gate g is such an output
unfoldable pub admissible : List ℕ → (g literal : ℕ) → Bool
admissible b g literal = cond (ltb literal (2 * gate_signal b g)) (not (of_unconnected b literal)) (unconnected b g)

-- 3, of the literals at `start`: those of `count` gates from gate g on, and all
abbrev pub literals_from : List ℕ → (start g count : ℕ) → Figures
literals_from b start g count = refuse_first (λ g. not (admissible b g (literal_at b start g))) 3 (λ g. start + 2 * g) (answer 0 0) g count

unfoldable pub literals_checked : List ℕ → (start : ℕ) → Figures
literals_checked b start = literals_from b start 0 (gates b)

-- every check but 4: 1 (head), 2, 1, 3
unfoldable pub form_within : (most long : ℕ) → List ℕ → Figures
form_within most long b =
    and_then (head_checked most long b)
    (and_then (literals_checked b (lefts_at b))
    (literals_checked b (rights_at b)))

-- of a circuit, and of a plain network, which has one frame and up to 16 inputs (document 02, Point 11)
unfoldable pub form_checked : List ℕ → Figures
form_checked b = form_within most_inputs most_frames b

unfoldable pub network_checked : List ℕ → Figures
network_checked b = form_within most_bits 1 b

-- ---- the outputs on a sequence

-- the values of the constant and of `count` inputs, n to a word
unfoldable pub input_values : (words : List ℕ) (n count : ℕ) → List Bool
input_values words n count = listed (false ∷ []) (λ i. bit (get_or words (i / n) 0) (i % n)) count

-- a literal's value, given the signals' values
unfoldable pub literal_value : List Bool → (literal : ℕ) → Bool
literal_value vs literal = cond (eqb (literal % 2) 1) (not (get_or vs (literal / 2) false)) (get_or vs (literal / 2) false)

-- gate g's operand of the array at `start`: its literal, or 0 where it is an unconnected output, which so gives 0
unfoldable pub operand : List ℕ → (start g : ℕ) → ℕ
operand b start g = cond (unconnected b g) 0 (literal_at b start g)

-- a gate is the AND of its two operands
unfoldable pub gate_value : List ℕ → List Bool → (g : ℕ) → Bool
gate_value b vs g = literal_value vs (operand b (lefts_at b) g) && literal_value vs (operand b (rights_at b) g)

-- the values of the constant, the inputs and the first k gates
unfoldable pub signal_values : List ℕ → (words : List ℕ) (k : ℕ) → List Bool
signal_values b words k = grown (input_values words (inputs b) (all_inputs b)) (gate_value b) k

-- the output word of frame t, from 0
unfoldable pub output_word : List ℕ → (words : List ℕ) (t : ℕ) → ℕ
output_word b words t = packed (take (outputs b) (drop (output_signal b (outputs b * t)) (signal_values b words (gates b))))

-- the circuit's outputs on a sequence
unfoldable pub output_words : List ℕ → (words : List ℕ) → List ℕ
output_words b words = listed [] (output_word b words) (frames b)

-- ---- 4: all sequences are numbered, the first word highest, so that those that agree up to a frame are neighbours

-- output q on a sequence: a bit of its frame's output word
unfoldable pub output_bit : List ℕ → (words : List ℕ) (q : ℕ) → Bool
output_bit b words q = bit (output_word b words (q / outputs b)) (q % outputs b)

-- output q on the sequence x
unfoldable pub output_on : List ℕ → (q x : ℕ) → Bool
output_on b q x = output_bit b (history_words (2 ^ inputs b) (frames b) x) q

-- how many inputs there are in the frames after that of output q
unfoldable pub later_inputs : List ℕ → (q : ℕ) → ℕ
later_inputs b q = inputs b * (frames b - frame_of (outputs b) q)

-- output q is on the sequence x what it is on the first of the sequences that agree with x up to its frame: they are a block of 2 ^ later_inputs
unfoldable pub as_first : List ℕ → (q x : ℕ) → Bool
as_first b q x = beq (output_on b q x) (output_on b q (block_start (later_inputs b q) x))

-- output q looks ahead: on some sequence it is not what it is on the first that agrees with this one up to its frame
unfoldable pub looks_ahead : List ℕ → (q : ℕ) → Bool
looks_ahead b q = not (every (2 ^ all_inputs b) (as_first b q))

-- 4
unfoldable pub look_ahead_checked : List ℕ → Figures
look_ahead_checked b = refuse_first (looks_ahead b) 4 (λ q. q) (answer 0 0) 0 (all_outputs b)

-- ---- the whole check: 1 (head), 2, 1, 3, 4

unfoldable pub checked : List ℕ → Figures
checked b = and_then (form_checked b) (look_ahead_checked b)
