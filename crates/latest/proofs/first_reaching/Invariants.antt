-- `latest::first_reaching` meets its contract. The invariant: no output before q reaches a later frame, and `frame` is not after output q.
-- Assumes nothing.
use mathlib.Core.Path.{◌≡◌}
use mathlib.Core.Bool.{false}
use Prim.Native.Nat.{ℕ, ◌≤◌, ◌<◌}
use Rattle.circuit.specs.Frames.{NotAfter}
use Rattle.source.specs.Source.{sourced}
use Rattle.latest.specs.Latest.{reaches_later}
use Rattle.latest.proofs.first_reaching.Given as goal

abbrev pub invariant-loop-q : goal.invariant-loop-q
invariant-loop-q l =
    (l.q ≤ l.total) × ((i : ℕ) → i < l.q → reaches_later (sourced l.source l.circuit) i ≡ false) × NotAfter l.source.outputs l.frame l.q
