use native.Mathlib.Omega.{arith}
use Rattle.explore.proofs.Layers.{group_count, grouped_is}
use Rattle.explore.proofs.at_group.Goals as goal

-- src/lib.rt:62:17
pub overflow_mul-count : goal.overflow_mul-count
overflow_mul-count c =
    omega (arith, group_count c.args.layout c.args.cursor c.requires)

-- src/lib.rt:65:16
pub group_size-requires : goal.group_size-requires
group_size-requires c =
    omega (arith, group_count c.args.layout c.args.cursor c.requires)

-- src/lib.rt:58:1
pub returns : goal.returns
returns c =
    grouped_is c.args.layout c.args.cursor _ c.group_size.ensures
