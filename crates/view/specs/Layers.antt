-- One layer of a table's outputs (document 02, Point 9: the board maker's reading).
use Rattle.std.specs.Prelude.{ℕ, ◌+◌, ◌*◌, ◌^◌, Bool, ◌&&◌, cond, List, [], ltb, eqb, Result, Ok, Err}
use Rattle.std.specs.Borrow.{Bor}
use Rattle.verdict.specs.Judgements.{answer, refusal_figures, refuse, and_then}
use Rattle.verdict.specs.declared.Figures.{Figures}
use Rattle.verdict.specs.declared.Refusal.{Refusal}
use Rattle.sizes.specs.Sizes.{inputs, frames}
use Rattle.table.specs.Table.{states, entries_below, outputs_at, layer_part, checked}
use Rattle.view.specs.declared.layers.Part.{Part}
use Rattle.view.specs.declared.layers.LayerFigures.{LayerFigures}

-- the verdict on a layer that is to be shown: that on the table, then 11 for a layer above T
unfoldable pub layer_checked : List ℕ → (layer : ℕ) → Figures
layer_checked b layer = and_then (checked b) (refuse (ltb (frames b) layer) 11 layer (answer 0 0))

-- there is something to show: nothing is refused, and the layer is not the end layer, which has no outputs
unfoldable pub shows : List ℕ → (layer : ℕ) → Bool
shows b layer = eqb (layer_checked b layer).number 0 && ltb layer (frames b)

-- what is shown: the layer's part of the array of outputs, else an empty part
unfoldable pub layer_outputs : List ℕ → (layer : ℕ) → List ℕ
layer_outputs b layer = cond (shows b layer) (layer_part b (outputs_at b) layer) []

-- number and place, and where the part stands: its byte offset and length, 0 and 0 where it is empty
unfoldable pub located : List ℕ → (layer : ℕ) → LayerFigures
located b layer = record {
  number = (layer_checked b layer).number;
  place = (layer_checked b layer).place;
  offset = cond (shows b layer) (outputs_at b + 2 * entries_below b layer) 0;
  length = cond (shows b layer) (2 * (states b layer * 2 ^ inputs b)) 0;
}

-- number, place, offset and length of each case of the answer
abbrev pub layer_figures : Result Part Refusal → LayerFigures
layer_figures (Ok p) = record { number = 0; place = 0; offset = p.offset; length = p.length }
layer_figures (Err r) = record { number = (refusal_figures r).number; place = (refusal_figures r).place; offset = 0; length = 0 }

-- number and place of each case of what is shown
abbrev pub shown_figures : Result (Bor (List ℕ)) Refusal → Figures
shown_figures (Ok p) = answer 0 0
shown_figures (Err r) = refusal_figures r

-- the place in memory, a block and an offset, that is so many bytes behind another of the same block
abbrev pub behind : (bytes : ℕ) → ℕ × ℕ → ℕ × ℕ
behind bytes p = (p.0, bytes + p.1)
