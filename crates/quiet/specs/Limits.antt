-- How many minutes a week has, and the most windows. In src/ they are the associated constants of `Limits`.
use Rattle.std.specs.Prelude.{ℕ}

abbrev pub week_minutes : ℕ
week_minutes = 10080

abbrev pub most_windows : ℕ
most_windows = 32
