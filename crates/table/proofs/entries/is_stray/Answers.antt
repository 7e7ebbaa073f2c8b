-- `table::entries::is_stray` meets its contract: the code is the definition.
-- Assumes nothing.
use mathlib.Core.Path.{refl}
use Rattle.table.specs.Table.{strays}
use Rattle.table.proofs.entries.is_stray.Goals as goal

pub returns : goal.returns
unfolding strays
returns c = refl
