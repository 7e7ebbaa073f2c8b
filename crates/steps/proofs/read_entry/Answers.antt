-- `steps::read_entry` meets its contract: the two words that are read are the machine's output and next state.
-- Assumes nothing.
use mathlib.Core.List.{List}
use Rattle.std.proofs.Common.{◌≡◌, ap, ℕ, ◌+◌, ◌*◌, ◌<◌, arith}
use Rattle.std.proofs.lemmas.Grind.{common_steps}
use lib.Arith.{digits_lt}
use Rattle.table.specs.Table.{entry_count, outputs_at, nexts_at, entry_at, bad_output, bad_next}
use Rattle.table.specs.declared.Layout.{Layout}
use Rattle.table.proofs.Offsets.{Laid, laid, layer_in, head_length_lem}
use Rattle.steps.specs.Steps.{entry_checked}
use Rattle.steps.proofs.read_entry.Goals as goal
use Rattle.steps.proofs.read_entry.Goals.{Start, After-entries_below-below}

layout_is : (c : Start) → Laid c.args.table.now c.args.layout
layout_is c = laid _ _ c.requires.table_headed c.requires.layout_value

-- where the entry of state s of layer t and word w stands, where `below` entries stand before the layer's
record Found (b : List ℕ) (l : Layout) (t s w below : ℕ) : Type 0 where
  pub room : below + (s * l.words + w) < entry_count b
  pub output_at : l.outputs + 2 * (below + (s * l.words + w)) ≡ entry_at b (outputs_at b) t s w
  pub next_at : l.nexts + 2 * (below + (s * l.words + w)) ≡ entry_at b (nexts_at b) t s w

found : (c : After-entries_below-below) → Found c.args.table.now c.args.layout c.args.position.layer c.args.position.state c.args.word c.entries_below-below.result
unfolding entry_at
found c =
    let l = laid _ _ c.requires.table_headed c.requires.layout_value in
    let k = ap (λ (k : ℕ). c.args.position.state * k) l.words_is in
    record {
      room = omega (arith, k, layer_in _ _ c.requires.layer_bound.0, digits_lt c.requires.layer_bound.1 c.requires.layer_bound.2);
      output_at = omega (arith, k, l.outputs_is);
      next_at = omega (arith, k, l.nexts_is);
    }

pub entries_below-below-requires : goal.entries_below-below-requires
entries_below-below-requires c =
    let l = layout_is (goal.at.entries_below-below-requires c).Start in
    record { words_value = (l.words_is, omega arith); layer_le_most_frames = (omega (arith, c.requires), omega (arith, c.requires)) }

pub overflow_mul-offset : goal.overflow_mul-offset
overflow_mul-offset c = omega (arith, layout_is (goal.at.overflow_mul-offset c).Start, found (goal.at.overflow_mul-offset c).After-entries_below-below)

pub overflow_add-offset : goal.overflow_add-offset
overflow_add-offset c = omega (arith, layout_is (goal.at.overflow_add-offset c).Start, found (goal.at.overflow_add-offset c).After-entries_below-below)

pub overflow_add-offset-2 : goal.overflow_add-offset-2
overflow_add-offset-2 c = omega (arith, layout_is (goal.at.overflow_add-offset-2 c).Start, found (goal.at.overflow_add-offset-2 c).After-entries_below-below)

pub overflow_mul-offset-2 : goal.overflow_mul-offset-2
overflow_mul-offset-2 c = omega (arith, layout_is (goal.at.overflow_mul-offset-2 c).Start, found (goal.at.overflow_mul-offset-2 c).After-entries_below-below)

pub overflow_add-output_at : goal.overflow_add-output_at
overflow_add-output_at c = omega (arith, layout_is (goal.at.overflow_add-output_at c).Start, found (goal.at.overflow_add-output_at c).After-entries_below-below)

pub read-output-requires : goal.read-output-requires
read-output-requires c = omega (arith, layout_is (goal.at.read-output-requires c).Start, found (goal.at.read-output-requires c).After-entries_below-below)

pub overflow_add-next_at : goal.overflow_add-next_at
overflow_add-next_at c = omega (arith, layout_is (goal.at.overflow_add-next_at c).Start, found (goal.at.overflow_add-next_at c).After-entries_below-below)

pub read-next-requires : goal.read-next-requires
read-next-requires c = omega (arith, layout_is (goal.at.read-next-requires c).Start, found (goal.at.read-next-requires c).After-entries_below-below)

pub connected_of-requires : goal.connected_of-requires
connected_of-requires c =
    let l = layout_is (goal.at.connected_of-requires c).Start in
    record {
      last_value = (l.frames_is, l.frames_to, omega (arith, c.requires));
      last_in_bounds = omega (arith, l, head_length_lem c.args.layout.frames);
    }

pub returns-then-is_stray : goal.returns-then-is_stray
unfolding entry_checked bad_output
returns-then-is_stray c = let f = found (goal.at.returns-then-is_stray c).After-entries_below-below in grind (arith, common_steps)

pub states_of-requires : goal.states_of-requires
states_of-requires c = omega (arith, c.requires, layout_is (goal.at.states_of-requires c).Start)

pub returns-then-states_of-next : goal.returns-then-states_of-next
unfolding entry_checked bad_output bad_next
returns-then-states_of-next c = let f = found (goal.at.returns-then-states_of-next c).After-entries_below-below in grind (arith, common_steps)

pub returns : goal.returns
unfolding entry_checked bad_output bad_next
returns c = let f = found (goal.at.returns c).After-entries_below-below in grind (arith, common_steps)
