-- `price::states_cents` meets its contract. The invariant: what the bands from there on make of the states that are left is what is missing.
-- Assumes nothing.
use mathlib.Core.Path.{◌≡◌}
use Prim.Native.Nat.{◌+◌, ◌≤◌}
use lib.ListN.{length, drop}
use Rattle.price.specs.Price.{states_cents}
use Rattle.price.proofs.Bands.{tariff, walked}
use Rattle.price.proofs.states_cents.Given as goal

abbrev pub invariant-loop-band : goal.invariant-loop-band
invariant-loop-band l =
    (l.band-index ≤ length tariff) × (l.left ≤ l.states) × (l.cents + walked (drop l.band-index tariff) l.left ≡ states_cents l.states)
