-- `price::states_cents` meets its contract. The invariant: what the bands from there on make of the states that are left is what is missing.
-- Assumes nothing.
use Rattle.std.proofs.Common.{◌≡◌, ◌+◌, ◌*◌, ◌-◌, get_or, drop, length, arith}
use Rattle.price.proofs.Bands.{tariff, walked, walk_on, walked_all, cents_most}
use Rattle.price.proofs.states_cents.Goals as goal
use Rattle.price.proofs.states_cents.Goals.{After-min-taken}

-- the band takes its part of the states that are left
step : (c : After-min-taken) → walked (drop c.loop-band.band-index tariff) c.loop-band.left
    ≡ c.min-taken.result * (get_or tariff c.loop-band.band-index (record { width = 0; cents = 0 })).cents + walked (drop (c.loop-band.band-index + 1) tariff) (c.loop-band.left - c.min-taken.result)
step c = walk_on tariff _ _ _ _ c.loop-band-test.true c.min-taken.ensures

pub loop-band-init : goal.loop-band-init
loop-band-init c = (omega arith, omega arith, omega (arith, walked_all c.args.states (omega arith)))

pub overflow_add-cents : goal.overflow_add-cents
overflow_add-cents c = omega (arith, step (goal.at.overflow_add-cents c).After-min-taken, cents_most c.args.states)

pub loop-band-preserved : goal.loop-band-preserved
loop-band-preserved c = (omega arith, omega arith, omega (arith, step (goal.at.loop-band-preserved c).After-min-taken))

pub returns : goal.returns
unfolding walked
returns c =
    let e : c.loop-band.band-index ≡ length tariff = omega arith in
    omega (arith, rw e at c.loop-band.invariant.2)
