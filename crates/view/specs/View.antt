-- A table seen through a mask (document 02, Point 9: the buyer's reading).
use Rattle.std.specs.Prelude.{ℕ, ◌^◌, List, leb, length}
use Rattle.verdict.specs.Judgements.{answer, refuse, and_then, result_after}
use Rattle.verdict.specs.declared.Figures.{Figures}
use Rattle.sizes.specs.Sizes.{inputs, outputs, frames, sequence_checked}
use Rattle.table.specs.Table.{checked}
use Rattle.run.specs.Run.{shown}

-- 17: a mask of 2^m or more
unfoldable pub mask_checked : (m mask : ℕ) → Figures
mask_checked m mask = refuse (leb (2 ^ m) mask) 17 0 (answer 0 0)

-- the verdict on a view: that on the table, then 17, then as on a run 12, 9, 7
unfoldable pub viewed : List ℕ → (mask : ℕ) (words : List ℕ) (room : ℕ) → Figures
viewed b mask words room = and_then (checked b) (and_then (mask_checked (outputs b) mask) (sequence_checked (inputs b) (frames b) words room))

-- what the result holds after it: the outputs that a run gives, with all bits outside the mask 0
unfoldable pub view_result : List ℕ → (mask : ℕ) (words before : List ℕ) → List ℕ
view_result b mask words before = result_after (viewed b mask words (length before)) (shown b mask words) before
