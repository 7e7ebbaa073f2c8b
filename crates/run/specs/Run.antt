-- A table run on a sequence (document 01's "playing").
use Rattle.std.specs.Prelude.{ℕ, ◌^◌, ◌≡◌, List, length}
use Rattle.verdict.specs.Judgements.{answer, and_then, result_after}
use Rattle.verdict.specs.declared.Figures.{Figures}
use Rattle.sizes.specs.Sizes.{inputs, frames, sequence_checked}
use Rattle.layered.specs.States.{Words}
use Rattle.layered.specs.Machines.{masked, feed}
use Rattle.table.specs.Table.{machine, checked}

-- the outputs of the table b on a sequence, as they are seen through a mask: of each the bits of the mask, all others 0
abbrev pub shown : List ℕ → (mask : ℕ) (words : List ℕ) → List ℕ
shown b mask words = feed (masked (λ _. mask) (machine b)) 0 0 words

-- the verdict on a run: that on the table, then 12, 9, 7
unfoldable pub ran : List ℕ → (words : List ℕ) (room : ℕ) → Figures
ran b words room = and_then (checked b) (sequence_checked (inputs b) (frames b) words room)

-- what the result holds after it: the outputs that the machine yields, fed the words
unfoldable pub run_result : List ℕ → (words before : List ℕ) → List ℕ
run_result b words before = result_after (ran b words (length before)) (feed (machine b) 0 0 words) before

-- a run that is accepted was fed a sequence of the machine's, and gives T outputs, and T is the place
unfoldable pub RunFeeds : List ℕ → (words : List ℕ) (room : ℕ) → Type 0
RunFeeds b words room =
    (p : ℕ) → ran b words room ≡ answer 0 p
    → Words (2 ^ inputs b) (frames b) words × (p ≡ frames b) × (length (feed (machine b) 0 0 words) ≡ p)
