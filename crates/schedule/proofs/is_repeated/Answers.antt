-- `schedule::is_repeated` meets its contract.
-- Assumes nothing.
use mathlib.Core.Path.{◌∙◌}
use Rattle.schedule.proofs.Lists.{repeated_is}
use Rattle.schedule.proofs.is_repeated.Goals as goal

pub returns : goal.returns
returns c = c.contains.ensures.value ∙ repeated_is c.args.list.now c.args.k c.requires
