-- `counting::ones_of` meets its contract. The invariant: the bits 1 so far are counted.
-- Assumes nothing.
use mathlib.Core.Path.{◌≡◌}
use Prim.Native.Nat.{◌≤◌}
use Rattle.circuit.specs.Lists.{bit}
use Rattle.layered.specs.Search.{tally}
use Rattle.counting.proofs.ones_of.Given as goal

abbrev pub invariant-loop-j : goal.invariant-loop-j
invariant-loop-j l =
    (l.j ≤ l.count) × (l.ones ≡ tally l.j (bit l.word))
