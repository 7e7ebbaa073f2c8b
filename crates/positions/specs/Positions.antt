-- The judgement of a position and of the word of a step.
use Rattle.std.specs.Prelude.{ℕ, ◌^◌, ◌||◌, List, ltb, leb, eqb}
use Rattle.verdict.specs.Judgements.{answer, refuse, and_then}
use Rattle.verdict.specs.declared.Figures.{Figures}
use Rattle.sizes.specs.Sizes.{inputs, frames}
use Rattle.table.specs.Table.{states}

-- 11: the table has no such position
unfoldable pub place_checked : List ℕ → (layer state : ℕ) → Figures
place_checked b layer state = refuse (ltb (frames b) layer || leb (states b layer) state) 11 layer (answer 0 0)

-- 11, 10, 9
unfoldable pub position_checked : List ℕ → (layer state word : ℕ) → Figures
unfolding place_checked
position_checked b layer state word =
    and_then (place_checked b layer state)
    (refuse (eqb layer (frames b)) 10 (frames b)
    (refuse (leb (2 ^ inputs b) word) 9 0
    (answer 0 0)))
