-- What a search of the numbers below a bound answers.
use Rattle.std.specs.Prelude.{ℕ, Option, Some, None, cond, ltb}

-- k where it is below n; `least n` of a test is n where no number is found
unfoldable pub found : (n k : ℕ) → Option ℕ
found n k = cond (ltb k n) (Some k) None
