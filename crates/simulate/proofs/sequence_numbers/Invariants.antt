-- `simulate::sequence_numbers` meets its contract. The invariant: the numbers of the first k sequences are stored.
-- Assumes nothing.
use mathlib.Core.Path.{◌≡◌}
use Prim.Native.Nat.{ℕ, ◌^◌, ◌≤◌, ◌<◌}
use lib.ListN.{length, get_or}
use Rattle.layered.specs.Histories.{history_number}
use Rattle.simulate.specs.Limits.{most_sequences}
use Rattle.simulate.specs.Simulate.{sequence_at}
use Rattle.simulate.proofs.sequence_numbers.Given as goal

abbrev pub invariant-loop-k : goal.invariant-loop-k
invariant-loop-k l =
    (l.k ≤ l.count) × (length l.numbers ≡ most_sequences)
    × ((i : ℕ) → i < l.k → get_or l.numbers i 0 ≡ history_number (2 ^ l.inputs) 0 (sequence_at l.frames l.words i))
