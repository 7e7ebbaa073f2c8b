-- The inputs that a history gives, as one number: input l of all is bit l - 1, so that the first word is lowest (in a history's number it is highest).
use Rattle.std.specs.Prelude.{ℕ, zero, suc, ◌+◌, ◌*◌, ◌/◌, ◌%◌, ◌^◌}

-- the path of the history h of t words of n bits
unfoldable pub path_of : (n t h : ℕ) → ℕ
path_of n zero h = 0
path_of n (suc t) h = path_of n t (h / 2 ^ n) + h % 2 ^ n * 2 ^ (n * t)
