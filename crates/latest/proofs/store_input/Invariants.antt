-- `latest::store_input` meets its contract. The invariant: the latest frames of input k of the first t frames are stored too.
-- Assumes nothing.
use mathlib.Core.Path.{◌≡◌}
use Prim.Native.Nat.{◌≤◌}
use lib.ListN.{length}
use Rattle.latest.proofs.Laws.{InputTo}
use Rattle.latest.proofs.store_input.Given as goal

abbrev pub invariant-loop-t : goal.invariant-loop-t
invariant-loop-t l =
    (l.t ≤ l.frames) × (length l.latest ≡ length l.initial.latest) × InputTo l.inputs l.frames l.k l.t l.latest
