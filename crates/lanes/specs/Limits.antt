-- How many sequences are simulated side by side, a lane each: the bits of a signal's number; and the bits of a lane's. In src/ they are the
-- associated constants of `Limits`.
use Rattle.std.specs.Prelude.{ℕ, ◌^◌}

abbrev pub lane_bits : ℕ
lane_bits = 5

abbrev pub lane_count : ℕ
lane_count = 2 ^ lane_bits
