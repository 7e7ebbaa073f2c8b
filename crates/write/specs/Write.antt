-- The words of a table by a response, and by what an exploration and the diagrams hold.
use Rattle.std.specs.Prelude.{◌≡◌, false, cond, List, [], ◌∷◌, ◌++◌, ℕ, suc, ◌+◌, ◌*◌, ◌-◌, ◌^◌, ◌≤◌, ◌<◌, eqb, ltb, length, get_or, replicate}
use Rattle.words.specs.Words.{stored}
use Rattle.sizes.specs.Sizes.{inputs, outputs, frames}
use Rattle.layered.specs.Search.{tabulate, total}
use Rattle.layered.specs.States.{count}
use Rattle.layered.specs.Machines.{entries, folded}
use Rattle.circuit.specs.Lists.{listed, packed}
use Rattle.circuit.specs.Circuit.{connected_outputs}
use Rattle.circuit.specs.WellFormed.{WellFormed, Accepted}
use Rattle.circuit.specs.Theorems.{response}
use Rattle.circuit.specs.declared.Head.{Head}
use Rattle.table.specs.Table.{head_length}
use Rattle.folded.specs.Folded.{folded_bytes, scratch_needed}
use Rattle.diagrams.specs.Frames.{history_bits}
use Rattle.nodes.specs.declared.Node.{Node}
use Rattle.records.specs.Records.{nodes_in}
use Rattle.descend.specs.declared.Job.{Job}
use Rattle.explore.specs.declared.Layout.{Layout}
use Rattle.explore.specs.Explore.{layer_at, Laid, Explored, CountsTo, Subject, Given}
use Rattle.survey.specs.Survey.{work_length, LayoutOf, Known}
use Rattle.write.specs.declared.Writing.{Writing}

-- ---- the words

-- the head: sizes, counts and connected outputs
unfoldable pub head_words : List ℕ → List ℕ
head_words b = inputs b ∷ outputs b ∷ frames b ∷ tabulate (suc (frames b)) (count (2 ^ inputs b) (frames b) (response b)) ++ tabulate (frames b) (connected_outputs b)

-- the outputs and the next states of the response y, of all entries of the first t layers of T
abbrev pub output_words : (K T : ℕ) (y : ℕ → ℕ → ℕ) (t : ℕ) → List ℕ
output_words K T y t = entries K t (count K T y) (folded K T y).out

abbrev pub next_words : (K T : ℕ) (y : ℕ → ℕ → ℕ) (t : ℕ) → List ℕ
next_words K T y t = entries K t (count K T y) (folded K T y).next

-- the word of m outputs whose ids stand in ws from place `from` on: bit j is set where id j is the constant 1
unfoldable pub word_in : (ws : List ℕ) (from m : ℕ) → ℕ
word_in ws from m = packed (listed [] (λ j. eqb (get_or ws (from + j) 0) 1) m)

-- the words of a row whose ids were traced
unfoldable pub row_in : Layout → (ws : List ℕ) → List ℕ
row_in layout ws = tabulate layout.fan (λ w. word_in ws (layout.columns + w * layout.outputs) layout.outputs)

-- ---- next states

-- s and counts are explored, and there is room for the next states from byte offset `at` on
pub record NextsFit (layout : Layout) (s counts r : List ℕ) (at : ℕ) : Type 0 where
  pub y : ℕ → ℕ → ℕ
  pub laid : Laid layout
  pub explored : Explored layout.bits layout.outputs layout.frames y layout.half s (layout.frames - 1)
  pub counted : CountsTo layout.bits layout.outputs layout.frames y counts (layout.frames - 1)
  pub scratch_room : 2 * layout.half ≤ length s
  pub room : at + 2 * length (next_words (2 ^ layout.bits) layout.frames y layout.frames) ≤ length r

-- all next states are stored, whatever response is explored
abbrev pub NextsPut : Layout → (s counts r : List ℕ) (at : ℕ) (r' : List ℕ) → Type 0
NextsPut layout s counts r at r' = (N : NextsFit layout s counts r at) → r' ≡ stored 2 r at (next_words (2 ^ layout.bits) layout.frames N.y layout.frames)

-- ---- outputs, row by row

-- the first row, and the one after
abbrev pub first_row : (to : ℕ) → Writing
first_row to = record { layer = 0; states = 1; at = 0; state = 0; to = to }

unfoldable pub next_row : Layout → (counts : List ℕ) → Writing → Writing
next_row layout counts w =
    cond (ltb (w.state + 1) w.states)
    (record { layer = w.layer; states = w.states; at = w.at; state = w.state + 1; to = w.to + 2 * layout.fan })
    (record { layer = w.layer + 1; states = get_or counts (w.layer + 1) 0; at = w.at * layout.fan + 1; state = 0; to = w.to + 2 * layout.fan })

-- what is followed for a row: the outputs of the layer's frame, by the state's path and then by each word
abbrev pub row_job : (s : List ℕ) → Layout → Writing → Job
row_job s layout w = record {
  from = layout.roots + layout.outputs * w.layer;
  count = layout.outputs;
  path = get_or s (w.at + w.state) 0;
  top = layout.bits * w.layer;
  fan = layout.fan;
  at = layout.columns;
}

-- a row's numbers are within the limits
pub record AtRow (layout : Layout) (w : Writing) : Type 0 where
  pub laid : Laid layout
  pub inside : w.layer < layout.frames
  pub at_is : w.at ≡ layer_at layout.fan w.layer
  pub state_in : w.state < layout.fan ^ w.layer

-- an output word has the values of its frame's functions, where all later inputs are false
unfoldable pub Reads : Layout → Subject → Type 0
Reads layout g = (t h : ℕ) → t < layout.frames
    → g.y (suc t) h ≡ packed (listed [] (λ j. g.F (layout.outputs * t + j) (history_bits layout.bits (suc t) h ++ replicate (layout.bits * layout.frames - layout.bits * suc t) false)) layout.outputs)

-- what `put_outputs` needs: a subject whose diagrams are the records and whose states are explored, and room
pub record Writable (layout : Layout) (ns : List Node) (s ws counts r : List ℕ) (to : ℕ) : Type 0 where
  pub subject : Subject
  pub laid : Laid layout
  pub given : Given layout subject
  pub reads : Reads layout subject
  pub diagrams : subject.D ≡ nodes_in ns
  pub inside : (f : ℕ) → 0 < (nodes_in ns).level f → f < length ns + 2
  pub rooted : (o : ℕ) → o < layout.outputs * layout.frames → get_or ws (layout.roots + o) 0 ≡ subject.root o
  pub explored : Explored layout.bits layout.outputs layout.frames subject.y layout.half s (layout.frames - 1)
  pub counted : CountsTo layout.bits layout.outputs layout.frames subject.y counts (layout.frames - 1)
  pub scratch_room : 2 * layout.half ≤ length s
  pub work_room : layout.columns + layout.fan * layout.outputs ≤ length ws
  pub room : to + 2 * length (output_words (2 ^ layout.bits) layout.frames subject.y layout.frames) ≤ length r

-- all outputs are stored, whatever subject these are the states and diagrams of; and work is as before below the columns
abbrev pub Wrote : Layout → List Node → (s ws counts r : List ℕ) (to : ℕ) (ms r' : List ℕ) → Type 0
Wrote layout ns s ws counts r to ms r' = (W : Writable layout ns s ws counts r to)
    → (r' ≡ stored 2 r to (output_words (2 ^ layout.bits) layout.frames W.subject.y layout.frames)) × ((j : ℕ) → j < layout.columns → get_or ms j 0 ≡ get_or ws j 0)

-- ---- the whole table

-- the layout of the circuit b
pub record LayoutFor (b : List ℕ) (layout : Layout) : Type 0 where
  pub head : Head
  pub formed : WellFormed b head
  pub sizes : LayoutOf head layout

-- where the next states begin: behind the head and an output word for each entry of the layers that are counted
unfoldable pub nexts_from : Layout → (counts : List ℕ) → ℕ
nexts_from layout counts = head_length layout.frames + 2 * (total layout.frames (λ t. get_or counts t 0) * layout.fan)

-- a table can be written: all is known of an accepted circuit b, and the result r has room
pub record Tabled (b counts : List ℕ) (ns : List Node) (s ws r : List ℕ) : Type 0 where
  pub accepted : Accepted b
  pub records : ℕ
  pub known : Known b records ns s ws counts
  pub enough : scratch_needed b ≤ length s
  pub space : work_length ≤ length ws
  pub room : length (folded_bytes b) ≤ length r
