-- `simulate::sequence_number` meets its contract. The invariant: the number so far is that of the words so far.
-- Assumes nothing.
use mathlib.Core.Path.{◌≡◌}
use Prim.Native.Nat.{◌^◌, ◌≤◌}
use lib.ListN.{length, take}
use Rattle.layered.specs.Histories.{history_number}
use Rattle.simulate.proofs.sequence_number.Given as goal

abbrev pub invariant-loop-word : goal.invariant-loop-word
invariant-loop-word l =
    (l.word-index ≤ length l.words) × (l.base ≡ 2 ^ l.inputs) × (l.number ≡ history_number (2 ^ l.inputs) 0 (take l.word-index l.words))
