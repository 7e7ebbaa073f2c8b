-- `sizes::power` meets its contract: the shift does not wrap.
-- Assumes nothing.
use Rattle.sizes.proofs.Laws.{power_is}
use Rattle.sizes.proofs.power.Goals as goal

pub returns : goal.returns
returns c =
    power_is c.args.bits c.requires
