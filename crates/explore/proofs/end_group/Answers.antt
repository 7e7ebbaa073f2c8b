use native.Mathlib.Omega.{arith}
use Rattle.explore.proofs.Ends.{end_rowable, end_placed, end_groupable, group_ends, end_collectable, end_nextable, layer_ends}
use Rattle.explore.proofs.end_group.Goals as goal

-- src/lib.rt:149:9
pub rows_of-rows-requires : goal.rows_of-rows-requires
rows_of-rows-requires c =
    end_rowable c.args.layout c.args.scratch.now c.args.work.now c.args.cursor c.requires

-- src/lib.rt:150:9
pub refine-count-requires : goal.refine-count-requires
refine-count-requires c =
    end_placed c.args.layout c.args.scratch.now c.args.work.now c.args.cursor c.requires _ c.rows_of-rows.ensures

-- src/lib.rt:159:9
pub at_group-requires : goal.at_group-requires
at_group-requires c =
    end_groupable c.args.layout c.args.scratch.now c.args.work.now c.args.cursor c.requires _ c.rows_of-rows.ensures _ _ c.refine-count.ensures (omega arith)

-- src/lib.rt:159:9
pub returns-then-first-layout : goal.returns-then-first-layout
returns-then-first-layout c =
    group_ends c.args.layout c.args.scratch.now c.args.work.now c.args.cursor c.requires _ c.rows_of-rows.ensures _ _ c.refine-count.ensures (omega arith) _ c.at_group.ensures

-- src/lib.rt:166:9
pub overflow_mul-layout-2 : goal.overflow_mul-layout-2
overflow_mul-layout-2 c =
    omega (arith, (end_collectable c.args.layout c.args.scratch.now c.args.work.now c.args.cursor c.requires _ c.rows_of-rows.ensures _ _ c.refine-count.ensures (omega arith)).shift)

-- src/lib.rt:161:5
pub collect-requires : goal.collect-requires
collect-requires c =
    end_collectable c.args.layout c.args.scratch.now c.args.work.now c.args.cursor c.requires _ c.rows_of-rows.ensures _ _ c.refine-count.ensures (omega arith)

-- src/lib.rt:168:5
pub next_layer-requires : goal.next_layer-requires
next_layer-requires c =
    record {
      rowable = end_rowable c.args.layout c.args.scratch.now c.args.work.now c.args.cursor c.requires;
      nextable = end_nextable c.args.layout c.args.scratch.now c.args.work.now c.args.cursor c.requires _ c.rows_of-rows.ensures _ _ c.refine-count.ensures (omega arith);
    }

-- src/lib.rt:145:1
pub returns : goal.returns
returns c =
    layer_ends c.args.layout c.args.scratch.now c.args.work.now c.args.cursor c.requires _ c.rows_of-rows.ensures _ _ c.refine-count.ensures (omega arith) _ c.collect.ensures _ c.next_layer.ensures
