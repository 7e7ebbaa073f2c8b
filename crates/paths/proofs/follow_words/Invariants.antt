-- `paths::follow_words` meets its contract. The invariant: the numbers are those with the entries of the words so far.
-- Assumes nothing.
use mathlib.Core.Path.{◌≡◌}
use Prim.Native.Nat.{◌+◌, ◌*◌, ◌^◌, ◌≤◌}
use Rattle.words.specs.Words.{stored}
use Rattle.sizes.specs.Sizes.{inputs}
use Rattle.paths.specs.Places.{reach_head}
use Rattle.paths.specs.Progress.{so_far}
use Rattle.paths.proofs.follow_words.Given as goal

abbrev pub invariant-loop-w : goal.invariant-loop-w
invariant-loop-w l =
    (l.w ≤ l.words) × (l.res ≡ stored 4 l.initial.res (reach_head l.table) (so_far l.table l.layer.layer (l.s * 2 ^ inputs l.table + l.w)))
