-- Things numbered by which are the same: 0, 1, .. in the order in which new ones come. `same d c` is a test of an earlier d against c.
use Rattle.std.specs.Prelude.{Bool, ℕ, eqb}
use Rattle.layered.specs.Search.{least, tally}

module _ (same : ℕ → ℕ → Bool) where
  -- the first that is the same as c
  unfoldable pub first_same : (c : ℕ) → ℕ
  first_same c = least c (λ d. same d c)

  -- whether that is c itself
  unfoldable pub is_new : (c : ℕ) → Bool
  is_new c = eqb (first_same c) c

  -- the number of c: how many new ones come before the first that is the same
  unfoldable pub number_same : (c : ℕ) → ℕ
  number_same c = tally (first_same c) is_new

  -- how many different ones there are among the first C
  unfoldable pub count_same : (C : ℕ) → ℕ
  count_same C = tally C is_new
