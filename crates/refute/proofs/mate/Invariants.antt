-- `refute::mate` meets its contract. The invariant: `count` histories have s words.
-- Assumes nothing.
use mathlib.Core.Path.{◌≡◌}
use Prim.Native.Nat.{◌^◌}
use Rattle.refute.proofs.mate.Given as goal

abbrev pub invariant-loop-s : goal.invariant-loop-s
invariant-loop-s l = l.count ≡ l.trial.sought.words ^ l.s
