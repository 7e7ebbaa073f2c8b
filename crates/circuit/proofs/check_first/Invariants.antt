-- `circuit::check_first` meets its contract. The invariant: what the definition says of all literals is what it says of those from g on.
-- Assumes nothing.
use mathlib.Core.Path.{◌≡◌}
use Prim.Native.Nat.{◌-◌, ◌≤◌}
use Rattle.circuit.specs.Circuit.{literals_from}
use Rattle.circuit.proofs.check_first.Given as goal

abbrev pub invariant-loop-g : goal.invariant-loop-g
invariant-loop-g l =
    (l.g ≤ l.count) × (literals_from l.circuit l.start 0 l.count ≡ literals_from l.circuit l.start l.g (l.count - l.g))
