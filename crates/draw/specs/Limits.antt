-- The limits of drawing, in src/ the associated constants of `Limits`.
use Rattle.std.specs.Prelude.{ℕ, ◌*◌, ◌/◌}
use Rattle.sizes.specs.Limits.{most_outputs, most_frames}
use Rattle.circuit.specs.Limits.{most_gates}

-- the most states of a layer that are drawn, as each has two edges or more
abbrev pub most_drawn_states : ℕ
most_drawn_states = most_gates / 2

-- the most outputs over all frames
abbrev pub most_literals : ℕ
most_literals = most_outputs * most_frames
