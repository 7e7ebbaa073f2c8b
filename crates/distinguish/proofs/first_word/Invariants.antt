-- `distinguish::first_word` meets its contract. The invariant: before a word the outputs do not differ.
-- Assumes nothing.
use mathlib.Core.Path.{◌≡◌}
use mathlib.Core.Bool.{Bool, false, not}
use mathlib.Core.List.{List}
use Prim.Native.Nat.{ℕ, ◌+◌, ◌*◌, ◌≤◌, ◌<◌}
use lib.Dec.{eqb}
use Rattle.words.specs.Words.{word_at}
use Rattle.distinguish.proofs.first_word.Given as goal

-- the outputs for the word w differ
abbrev test : (table : List ℕ) (first second : ℕ) → ℕ → Bool
test table first second w = not (eqb (word_at table (first + 2 * w)) (word_at table (second + 2 * w)))

abbrev pub invariant-loop-word : goal.invariant-loop-word
invariant-loop-word l =
    (l.word ≤ l.words) × ((i : ℕ) → i < l.word → test l.table l.first l.second i ≡ false)
