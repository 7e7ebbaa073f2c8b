use mathlib.Core.Path.{sym, subst}
use native.Mathlib.Omega.{arith}
use Rattle.explore.specs.Explore.{Starts}
use Rattle.explore.proofs.Layers.{frames_to}
use Rattle.explore.proofs.Begin.{first_groupable, start_holds}
use Rattle.explore.proofs.start.Goals as goal

-- src/lib.rt:79:5
pub offset_bounds-counts-frames : goal.offset_bounds-counts-frames
offset_bounds-counts-frames c =
    omega (arith, frames_to c.args.layout c.requires)

-- src/lib.rt:79:5
pub bounds-counts-frames : goal.bounds-counts-frames
bounds-counts-frames c =
    omega (arith, frames_to c.args.layout c.requires)

-- src/lib.rt:89:5
pub at_group-requires : goal.at_group-requires
at_group-requires c =
    first_groupable c.args.layout c.requires

-- src/lib.rt:72:1
pub returns : goal.returns
returns c =
    subst (Starts c.args.layout) (sym c.at_group.ensures) (start_holds c.args.layout)
