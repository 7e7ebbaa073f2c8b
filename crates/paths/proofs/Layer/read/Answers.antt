-- `paths::Layer::read` meets its contract.
-- Assumes nothing.
use mathlib.Core.List.{List}
use Prim.Native.Nat.{ℕ, ◌+◌, ◌*◌}
use native.Mathlib.Omega.{arith}
use Rattle.table.proofs.Offsets.{Laid, laid}
use Rattle.table.proofs.Parts.{count_in}
use Rattle.paths.proofs.Places.{from_is, to_is, gap_is}
use Rattle.paths.proofs.Layer.read.Goals as goal

pub entries_below-entries-requires : goal.entries_below-entries-requires
entries_below-entries-requires c =
    let layout_of : Laid c.args.table.now c.args.layout =
    laid c.args.table.now c.args.layout c.requires.table_headed c.requires.layout_value.0
    in
    record {
      words_value = (layout_of.words_is, layout_of.words_to);
      layer_le_most_frames = (omega (arith, c.requires.layout_value.1, c.requires.table_headed.sized), omega (arith, count_in c.args.table.now c.requires.table_headed c.args.t (omega (arith, c.requires.layout_value.1))));
    }

pub states_below-below-requires : goal.states_below-below-requires
states_below-below-requires c =
    (omega (arith, c.requires.layout_value.1, c.requires.table_headed.sized), omega (arith, count_in c.args.table.now c.requires.table_headed c.args.t (omega (arith, c.requires.layout_value.1))))

pub states_of-states-requires : goal.states_of-states-requires
states_of-states-requires c =
    count_in c.args.table.now c.requires.table_headed c.args.t (omega (arith, c.requires.layout_value.1))

pub states_below-all-requires : goal.states_below-all-requires
states_below-all-requires c =
    let layout_of : Laid c.args.table.now c.args.layout =
    laid c.args.table.now c.args.layout c.requires.table_headed c.requires.layout_value.0
    in
    let l = layout_of in
    (omega (arith, l.frames_to), omega (arith, l.end_at, l.nexts-at, l.outputs-at))

pub head_bytes-requires : goal.head_bytes-requires
head_bytes-requires c =
    let layout_of : Laid c.args.table.now c.args.layout =
    laid c.args.table.now c.args.layout c.requires.table_headed c.requires.layout_value.0
    in
    layout_of.frames_to

pub overflow_add-result : goal.overflow_add-result
overflow_add-result c =
    let layout_of : Laid c.args.table.now c.args.layout =
    laid c.args.table.now c.args.layout c.requires.table_headed c.requires.layout_value.0
    in
    omega (arith, layout_of.end_at, c.well_formed, c.entries_below-entries.ensures.1)

pub returns : goal.returns
returns c =
    let layout_of : Laid c.args.table.now c.args.layout =
    laid c.args.table.now c.args.layout c.requires.table_headed c.requires.layout_value.0
    in
    let b : List ℕ = c.args.table.now in
    let l = layout_of in
    let from = from_is b c.args.t _ _ _ l.frames_is c.head_bytes.ensures c.states_below-below.ensures.0 in
    let to = to_is b c.args.t _ _ from c.states_of-states.ensures.0 in
    let further = gap_is b _ _ l.frames_is c.states_below-all.ensures.0 in
    λ i. record {
      layer = c.args.t;
      words = l.words_is i;
      nexts = l.nexts_is i + 2 * c.entries_below-entries.ensures.0 i;
      from = from i;
      to = to i;
      gap = further i;
    }
