-- The most sequences that are simulated in one call. In src/ it is the associated constant of `Limits`.
use Rattle.std.specs.Prelude.{ℕ}

abbrev pub most_sequences : ℕ
most_sequences = 32
