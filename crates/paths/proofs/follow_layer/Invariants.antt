-- `paths::follow_layer` meets its contract. The invariant: the numbers are those with the entries of the states so far.
-- Assumes nothing.
use mathlib.Core.Path.{◌≡◌}
use Prim.Native.Nat.{◌*◌, ◌^◌, ◌≤◌}
use Rattle.words.specs.Words.{stored}
use Rattle.sizes.specs.Sizes.{inputs}
use Rattle.paths.specs.Places.{reach_head}
use Rattle.paths.specs.Progress.{so_far}
use Rattle.paths.proofs.follow_layer.Given as goal

abbrev pub invariant-loop-s : goal.invariant-loop-s
invariant-loop-s l =
    (l.s ≤ l.states) × (l.res ≡ stored 4 l.initial.res (reach_head l.table) (so_far l.table l.layer.layer (l.s * 2 ^ inputs l.table)))
