-- The lanes of a word as values at neighbouring numbers.
use Rattle.std.specs.Prelude.{ℕ, ◌+◌, ◌<◌, ◌≡◌, Bool}
use Rattle.circuit.specs.Lists.{bit}
use Rattle.lanes.specs.Limits.{lane_count}

-- the lanes of w are the values of v at `at`, `at` + 1, ..
unfoldable pub Holds : (w at : ℕ) (v : ℕ → Bool) → Type 0
Holds w at v = (j : ℕ) → j < lane_count → bit w j ≡ v (at + j)
