-- The most outputs over all frames. In src/ it is the associated constant of `Limits`.
use Rattle.std.specs.Prelude.{ℕ, ◌*◌}
use Rattle.sizes.specs.Limits.{most_outputs, most_frames}

abbrev pub most_all_outputs : ℕ
most_all_outputs = most_outputs * most_frames
