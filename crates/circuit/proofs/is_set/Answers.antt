-- `circuit::is_set` meets its contract: the code is the definition.
-- Assumes nothing.
use mathlib.Core.Path.{refl}
use Rattle.circuit.specs.Lists.{bit}
use Rattle.circuit.proofs.is_set.Goals as goal

pub returns : goal.returns
unfolding bit
returns c = refl
