-- The length of a circuit's head, the limit on its gates, the most gates that are folded (those of a network, and one for each place of an output),
-- the most signals that there can be (the constant, all inputs and these gates), and the mark of an unconnected output. In src/ they are the
-- associated constants of `Limits`.
use Rattle.std.specs.Prelude.{ℕ, ◌+◌, ◌*◌}
use Rattle.sizes.specs.Limits.{most_outputs, most_frames, most_bits}

abbrev pub circuit_head : ℕ
circuit_head = 8

abbrev pub most_gates : ℕ
most_gates = 4096

abbrev pub most_wired : ℕ
most_wired = most_gates + most_outputs * most_frames

abbrev pub most_signals : ℕ
most_signals = 1 + most_bits + most_wired

abbrev pub mark : ℕ
mark = 65535
