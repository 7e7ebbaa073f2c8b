-- `paths::follow_layers` meets its contract. The invariant: the numbers are those with the entries of the layers so far.
-- Assumes nothing.
use mathlib.Core.Path.{◌≡◌}
use Prim.Native.Nat.{◌≤◌}
use Rattle.words.specs.Words.{stored}
use Rattle.paths.specs.Places.{reach_head}
use Rattle.paths.specs.Progress.{so_far}
use Rattle.paths.proofs.follow_layers.Given as goal

abbrev pub invariant-loop-t : goal.invariant-loop-t
invariant-loop-t l =
    (l.t ≤ l.frames) × (l.res ≡ stored 4 l.initial.res (reach_head l.table) (so_far l.table l.t 0))
