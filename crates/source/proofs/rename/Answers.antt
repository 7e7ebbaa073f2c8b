-- `source::rename` meets its contract.
-- Assumes nothing.
use mathlib.Core.Path.{ap}
use Prim.Native.Nat.{◌+◌, ◌*◌, ◌%◌}
use Rattle.source.specs.Rearranged.{renamed}
use Rattle.source.proofs.rename.Goals as goal

pub returns : goal.returns
unfolding renamed
returns c =
    ap (λ x. 2 * x + c.args.literal % 2) c.stands.ensures.0
