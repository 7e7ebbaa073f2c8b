-- `causal::first_differing` meets its contract. The invariant: the outputs before q are on this part as on the first sequences, whose lanes are kept,
-- of the others what was kept of the part before still is, and `frame` is not after output q.
-- Assumes nothing.
use mathlib.Core.Path.{◌≡◌}
use mathlib.Core.Bool.{true}
use Prim.Native.Nat.{ℕ, ◌-◌, ◌≤◌, ◌<◌}
use lib.ListN.{length}
use Rattle.circuit.specs.Frames.{NotAfter}
use Rattle.source.specs.Source.{sourced}
use Rattle.lanes.specs.Limits.{lane_count}
use Rattle.causal.specs.Played.{Firsts, part_as_first}
use Rattle.causal.proofs.first_differing.Given as goal

abbrev pub invariant-loop-q : goal.invariant-loop-q
invariant-loop-q l =
    (l.from ≤ l.q) × (l.q ≤ l.found) × (length l.kept ≡ length l.initial.kept) × ((i : ℕ) → l.from ≤ i → i < l.q → part_as_first (sourced l.source l.circuit) l.at i ≡ true)
    × Firsts (sourced l.source l.circuit) l.at l.kept l.from l.q × (0 < l.at → Firsts (sourced l.source l.circuit) (l.at - lane_count) l.kept l.q l.found) × NotAfter l.source.outputs l.frame l.q
