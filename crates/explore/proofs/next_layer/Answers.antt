use mathlib.Core.Path.{◌∙◌}
use native.Mathlib.Omega.{arith}
use Rattle.explore.proofs.Layers.{next_place, next-first, next_groupable, next_is}
use Rattle.explore.proofs.next_layer.Goals as goal

-- src/lib.rt:116:5
pub offset_bounds-counts-layer : goal.offset_bounds-counts-layer
offset_bounds-counts-layer c =
    omega (arith, next_place c.args.layout c.args.cursor c.args.count c.requires.nextable)

-- src/lib.rt:116:5
pub bounds-counts-layer : goal.bounds-counts-layer
bounds-counts-layer c =
    omega (arith, next_place c.args.layout c.args.cursor c.args.count c.requires.nextable, c.requires.nextable.counts_in)

-- src/lib.rt:121:16
pub overflow_mul-next-2 : goal.overflow_mul-next-2
overflow_mul-next-2 c =
    omega (arith, next-first c.args.layout c.args.cursor c.args.count c.requires.nextable)

-- src/lib.rt:126:5
pub at_group-requires : goal.at_group-requires
at_group-requires c =
    next_groupable c.args.layout c.args.cursor c.args.count c.requires.nextable

-- src/lib.rt:109:1
pub returns : goal.returns
returns c =
    c.at_group.ensures ∙ next_is c.args.layout c.args.cursor c.args.count
