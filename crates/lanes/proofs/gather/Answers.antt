-- `lanes::gather` meets its contract: number k is made of the histories' bits k.
-- Assumes nothing.
use Rattle.std.proofs.Common.{rules, ◌≡◌}
use Rattle.circuit.specs.Lists.{packed}
use Rattle.lanes.specs.Lanes.{lane, NumberLanes}
use Rattle.lanes.proofs.Made.{made_at}
use Rattle.lanes.proofs.Laws.{gathered}
use Rattle.lanes.proofs.gather.Goals as goal

pub returns : goal.returns
unfolding NumberLanes
returns c j p lj lp =
    let e = made_at _ _ _ 0 (λ p y. y ≡ packed (lane p c.args.histories.now)) (λ p y q k. search rules) _ c.from_fn.ensures.items p lp in
    gathered c.args.histories.now _ p j e
