-- `trial::walk` meets its contract. The invariant: the histories of the frames before t are collected.
-- Assumes nothing.
use mathlib.Core.Path.{◌≡◌}
use Prim.Native.Nat.{◌^◌, ◌≤◌}
use lib.ListN.{length}
use Rattle.trial.specs.Trials.{target_in, next_in}
use Rattle.trial.specs.Collected.{Halves}
use Rattle.trial.proofs.subject.Trial.walk.Given as goal

abbrev pub invariant-loop-t : goal.invariant-loop-t
invariant-loop-t l =
    (l.t ≤ l.frames) × (l.count ≡ l.self.sought.words ^ l.t) × Halves (target_in l.self) (next_in l.self) l.self.sought.entries l.ones l.zeros l.t 0 × (length l.ones ≡ length l.initial.ones) × (length l.zeros ≡ length l.initial.zeros)
