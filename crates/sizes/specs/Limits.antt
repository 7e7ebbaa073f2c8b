-- The limits on the sizes of document 01: n, m, T and n·T. In src/ they are the associated constants of `Limits`.
use Rattle.std.specs.Prelude.{ℕ}

abbrev pub most_inputs : ℕ
most_inputs = 8

abbrev pub most_outputs : ℕ
most_outputs = 16

abbrev pub most_frames : ℕ
most_frames = 16

abbrev pub most_bits : ℕ
most_bits = 16
