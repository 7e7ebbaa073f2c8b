-- `causal::first_ahead` meets its contract. The invariant: where the pass stands, and what is kept of the part before.
-- Assumes nothing.
use mathlib.Core.Path.{◌≡◌}
use Prim.Native.Nat.{◌-◌, ◌%◌, ◌^◌, ◌≤◌, ◌<◌}
use lib.ListN.{length}
use Rattle.circuit.specs.Limits.{most_signals}
use Rattle.circuit.specs.Circuit.{all_inputs}
use Rattle.source.specs.Source.{sourced}
use Rattle.lanes.specs.Limits.{lane_count}
use Rattle.lanes.specs.Lanes.{FirstUses, Ready}
use Rattle.causal.specs.Limits.{most_all_outputs}
use Rattle.causal.specs.Played.{Firsts}
use Rattle.causal.proofs.Pass.{Pass}
use Rattle.causal.proofs.first_ahead.Given as goal

abbrev pub invariant-loop-at : goal.invariant-loop-at
invariant-loop-at l =
    (l.at % lane_count ≡ 0) × (l.count ≤ 65536) × (l.count ≡ 2 ^ all_inputs (sourced l.source l.circuit)) × (length l.lanes ≡ most_signals) × (length l.kept ≡ most_all_outputs)
    × Pass (sourced l.source l.circuit) l.from l.found l.at × (0 < l.at → Firsts (sourced l.source l.circuit) (l.at - lane_count) l.kept l.from l.found) × FirstUses l.circuit 0 l.firsts × Ready l.circuit l.lanes

abbrev pub decreases-loop-at : goal.decreases-loop-at
decreases-loop-at l =
    65536 - l.at
