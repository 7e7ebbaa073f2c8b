-- `gathers::is_chosen` meets its contract.
-- Assumes nothing.
use mathlib.Core.Path.{sym, ap, ◌∙◌}
use Rattle.gathers.specs.Gathers.{chosen}
use Rattle.gathers.specs.declared.Key.{Key}
use Rattle.gathers.proofs.is_chosen.Goals as goal

pub returns-in-NextState : goal.returns-in-NextState
unfolding chosen
returns-in-NextState c =
    ap (λ (key : Key). chosen key c.args.i c.args.x) (sym c.in-NextState.is)

pub returns-in-OutputBit : goal.returns-in-OutputBit
unfolding chosen
returns-in-OutputBit c =
    c.is_set.ensures ∙ ap (λ (key : Key). chosen key c.args.i c.args.x) (sym c.in-OutputBit.is)
