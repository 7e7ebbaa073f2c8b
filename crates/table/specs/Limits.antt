-- The length of n, m and T in a table, how many states layers 0 and T have, and the most that another layer can have. In src/ they are the
-- associated constants of `Limits`.
use Rattle.std.specs.Prelude.{ℕ}

abbrev pub sizes_length : ℕ
sizes_length = 6

abbrev pub end_states : ℕ
end_states = 1

abbrev pub most_states : ℕ
most_states = 32768
