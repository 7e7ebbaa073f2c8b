-- `counting::ones_in` meets its contract. The invariant: the bits 1 of the words so far are counted.
-- Assumes nothing.
use mathlib.Core.Path.{◌≡◌}
use Prim.Native.Nat.{◌*◌, ◌≤◌}
use Rattle.words.specs.Words.{word_at}
use Rattle.circuit.specs.Lists.{bit}
use Rattle.layered.specs.Search.{tally, total}
use Rattle.counting.proofs.ones_in.Given as goal

abbrev pub invariant-loop-e : goal.invariant-loop-e
invariant-loop-e l =
    (l.e ≤ l.entries) × (l.ones ≡ total l.e (λ e'. tally l.count (bit (word_at l.part (2 * e'))))) × (l.ones ≤ 16 * l.e)
