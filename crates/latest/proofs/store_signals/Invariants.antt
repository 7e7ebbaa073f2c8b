-- `latest::store_signals` meets its contract. The invariant: the latest frames of the signals before gate g are stored.
-- Assumes nothing.
use mathlib.Core.Path.{◌≡◌}
use Prim.Native.Nat.{◌+◌, ◌≤◌}
use lib.ListN.{length, take}
use Rattle.circuit.specs.Lists.{grown}
use Rattle.circuit.specs.Limits.{most_signals}
use Rattle.latest.specs.Latest.{later_frame}
use Rattle.latest.proofs.store_signals.Given as goal

abbrev pub invariant-loop-g : goal.invariant-loop-g
invariant-loop-g l =
    (l.g ≤ l.count) × (most_signals ≤ length l.latest) × (length l.latest ≡ length l.initial.latest) × (take (l.base + l.g) l.latest ≡ grown (take l.base l.initial.latest) (later_frame l.circuit) l.g)
