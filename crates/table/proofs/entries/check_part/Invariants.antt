-- `table::entries::check_part` meets its contract. The invariant: what the definition says of all words is what it says of those from i on.
-- Assumes nothing.
use mathlib.Core.Path.{◌≡◌}
use Prim.Native.Nat.{◌+◌, ◌*◌, ◌-◌, ◌≤◌}
use Rattle.words.specs.Words.{word_at}
use Rattle.verdict.specs.Judgements.{answer, refuse_first}
use Rattle.table.specs.Sound.{bad_by}
use Rattle.table.specs.Table.{part_checked}
use Rattle.table.proofs.entries.check_part.Given as goal

abbrev pub invariant-loop-i : goal.invariant-loop-i
invariant-loop-i l =
    (l.i ≤ l.count) × (part_checked (bad_by l.bound) l.at l.part ≡ refuse_first (λ i'. bad_by l.bound (word_at l.part (2 * i'))) 5 (λ i'. l.at + 2 * i') (answer 0 0) l.i (l.count - l.i))
