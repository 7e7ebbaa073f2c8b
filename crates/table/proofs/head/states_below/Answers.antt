-- `table::head::states_below` meets its contract. The invariant: the sum is that of the layers below t, and small.
-- Assumes nothing.
use mathlib.Core.Path.{◌≡◌, refl, ap, ◌∙◌}
use native.Mathlib.Numerals.{add-one}
use native.Mathlib.Omega.{arith}
use Rattle.layered.specs.Search.{total}
use Rattle.table.specs.Table.{states_below}
use Rattle.table.proofs.head.states_below.Goals as goal

pub loop-t-init : goal.loop-t-init
unfolding states_below total
loop-t-init c =
    (omega arith, refl, omega arith)

pub loop-t-preserved : goal.loop-t-preserved
unfolding states_below total
loop-t-preserved c =
    (omega arith, rw add-one (omega arith), omega arith)

pub returns : goal.returns
returns c =
    let e : c.loop-t.t ≡ c.args.layer = omega arith in
    (c.loop-t.invariant.1 ∙ ap (states_below c.args.table.now) e, omega arith)
