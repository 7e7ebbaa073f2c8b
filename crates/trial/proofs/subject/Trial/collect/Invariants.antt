-- `trial::collect` meets its contract. The invariant: the histories before h are collected, and no bit is demanded both ways.
-- Assumes nothing.
use mathlib.Core.Path.{◌≡◌}
use Prim.Native.Nat.{◌≤◌}
use lib.ListN.{length}
use Rattle.trial.specs.Trials.{target_in, next_in}
use Rattle.trial.specs.Collected.{Halves}
use Rattle.trial.proofs.subject.Trial.collect.Given as goal

abbrev pub invariant-loop-h : goal.invariant-loop-h
invariant-loop-h l =
    (l.h ≤ l.count) × Halves (target_in l.self) (next_in l.self) l.self.sought.entries l.ones l.zeros l.t l.h × (length l.ones ≡ length l.initial.ones) × (length l.zeros ≡ length l.initial.zeros)
