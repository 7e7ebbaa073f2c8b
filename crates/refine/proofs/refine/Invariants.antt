-- `refine::refine` meets its contract. The invariant: the candidates so far have their numbers, `fresh` is how many there are, and the buckets are
-- theirs.
-- Assumes nothing.
use mathlib.Core.Bool.{Bool}
use mathlib.Core.List.{List}
use Prim.Native.Nat.{ℕ, ◌-◌, ◌≤◌}
use Rattle.refine.specs.Rows.{number_in, same_row}
use Rattle.refine.specs.Buckets.{row_hash}
use Rattle.refine.specs.declared.Rows.{Rows}
use Rattle.refine.proofs.Buckets.{Bucketed}
use Rattle.refine.proofs.Refining.{Numbered}
use Rattle.refine.proofs.refine.Given as goal

-- the test and the hash by the numbers at the start
abbrev same : List ℕ → List ℕ → Rows → ℕ → ℕ → Bool
same s w rows = same_row (number_in s rows) w rows

abbrev hash : List ℕ → List ℕ → Rows → ℕ → ℕ
hash s w rows = row_hash (number_in s rows) w rows

abbrev pub invariant-loop-c : goal.invariant-loop-c
invariant-loop-c l =
    (l.c ≤ l.count) × Numbered l.initial.scratch l.scratch l.work l.rows l.c l.fresh × Bucketed (same l.initial.scratch l.work l.rows) (hash l.initial.scratch l.work l.rows) l.buckets l.links l.c

abbrev pub decreases-loop-c : goal.decreases-loop-c
decreases-loop-c l =
    l.count - l.c
