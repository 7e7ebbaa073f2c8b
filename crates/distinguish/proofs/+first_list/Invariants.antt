-- The cycle of calls {first_list}: the measure is how many words are left. The invariant: no list that begins with a word before w separates the
-- states.
-- Assumes nothing.
use mathlib.Core.Path.{◌≡◌}
use mathlib.Core.Bool.{false}
use Prim.Native.Nat.{ℕ, ◌*◌, ◌^◌, ◌≤◌, ◌<◌}
use Rattle.sizes.specs.Sizes.{inputs}
use Rattle.layered.specs.Histories.{history_words}
use Rattle.table.specs.Table.{machine}
use Rattle.distinguish.specs.Distinguish.{separates}
use Rattle.distinguish.proofs.+first_list.Given as goal

abbrev pub decreases-first_list : goal.decreases-first_list
decreases-first_list l = l.count

abbrev pub invariant-loop-w : goal.invariant-loop-w
invariant-loop-w l =
    (l.w ≤ l.words) × ((h : ℕ) → h < l.w * l.rest → separates (machine l.table) l.pair.layer l.pair.first l.pair.second (history_words (2 ^ inputs l.table) l.count h) ≡ false)
