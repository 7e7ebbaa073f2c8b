-- `circuit::check_rest` meets its contract. The invariant: what the definition says of all these literals is what it says of those from g on.
-- Assumes nothing.
use mathlib.Core.Path.{◌≡◌}
use Prim.Native.Nat.{◌-◌, ◌≤◌}
use Rattle.circuit.specs.Circuit.{gates, literals_from}
use Rattle.circuit.proofs.check_rest.Given as goal

abbrev pub invariant-loop-g : goal.invariant-loop-g
invariant-loop-g l =
    (l.first ≤ l.g) × (l.g ≤ l.count) × (literals_from l.circuit l.start l.first (gates l.circuit - l.first) ≡ literals_from l.circuit l.start l.g (l.count - l.g))
