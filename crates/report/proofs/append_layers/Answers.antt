-- `report::append_layers` meets its contract. The invariant: the lines of the layers below t are appended, each of few bytes.
-- Assumes nothing.
use mathlib.Core.Path.{◌≡◌, subst}
use Prim.Native.Nat.{ℕ, ◌+◌, ◌*◌, ◌≤◌, ◌<◌}
use native.Mathlib.Omega.{arith}
use lib.ListN.{length}
use Rattle.sizes.specs.Limits.{most_frames}
use Rattle.table.specs.Limits.{most_states}
use Rattle.table.specs.Table.{states}
use Rattle.report.specs.Report.{pair_line, layer_lines, line_room, Appended}
use Rattle.report.proofs.Appending.{append_length, append_nothing}
use Rattle.report.proofs.Lines.{layer_most, append_layer, layer_in}
use Rattle.report.proofs.append_layers.Goals as goal

pub loop-t-init : goal.loop-t-init
unfolding layer_lines
loop-t-init c =
    (omega arith, append_nothing _ _ (omega arith), omega arith)

pub states_of-requires : goal.states_of-requires
states_of-requires c =
    let here : (c.loop-t.t ≤ most_frames) × (7 + 2 * c.loop-t.t < length c.args.table.now) × (states c.args.table.now c.loop-t.t ≤ most_states) =
    layer_in c.args.table.now c.requires.table_headed.0 c.loop-t.t (omega (arith, c.loop-t-test.true, c.requires.table_headed.1))
    in
    (here).1

pub append_pair-end-requires : goal.append_pair-end-requires
append_pair-end-requires c =
    let here : (c.loop-t.t ≤ most_frames) × (7 + 2 * c.loop-t.t < length c.args.table.now) × (states c.args.table.now c.loop-t.t ≤ most_states) =
    layer_in c.args.table.now c.requires.table_headed.0 c.loop-t.t (omega (arith, c.loop-t-test.true, c.requires.table_headed.1))
    in
    let short : length (pair_line c.loop-t.t c.states_of.result) ≤ line_room =
    let h = here in layer_most _ c.states_of.result h.0 (omega (arith, h.2, c.states_of.ensures.0))
    in
    omega (arith, short, append_length c.loop-t.invariant.1)

pub overflow_step-t : goal.overflow_step-t
overflow_step-t c =
    let here : (c.loop-t.t ≤ most_frames) × (7 + 2 * c.loop-t.t < length c.args.table.now) × (states c.args.table.now c.loop-t.t ≤ most_states) =
    layer_in c.args.table.now c.requires.table_headed.0 c.loop-t.t (omega (arith, c.loop-t-test.true, c.requires.table_headed.1))
    in
    omega (arith, here)

pub loop-t-preserved : goal.loop-t-preserved
loop-t-preserved c =
    let here : (c.loop-t.t ≤ most_frames) × (7 + 2 * c.loop-t.t < length c.args.table.now) × (states c.args.table.now c.loop-t.t ≤ most_states) =
    layer_in c.args.table.now c.requires.table_headed.0 c.loop-t.t (omega (arith, c.loop-t-test.true, c.requires.table_headed.1))
    in
    let short : length (pair_line c.loop-t.t c.states_of.result) ≤ line_room =
    let h = here in layer_most _ c.states_of.result h.0 (omega (arith, h.2, c.states_of.ensures.0))
    in (
      omega arith,
      append_layer _ c.loop-t.t c.states_of.result c.states_of.ensures.0 c.loop-t.invariant.1 c.append_pair-end.ensures,
      omega (arith, c.append_pair-end.ensures.ends, short),
    )

pub returns : goal.returns
returns c =
    let e : c.loop-t.t ≡ c.args.count = omega arith in
    record {
      appended = subst (λ (t : ℕ). Appended c.args.out.now c.args.at (layer_lines c.args.table.now t) c.loop-t.out c.loop-t.end) e c.loop-t.invariant.1;
      upper_bound = omega arith;
    }
