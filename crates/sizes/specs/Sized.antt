-- What is known of accepted sizes and sequences, and the sizes as the code holds them.
use Rattle.std.specs.Prelude.{ℕ, ◌*◌, ◌^◌, ◌≤◌, ◌<◌, ◌≡◌, List, length, get_or}
use Rattle.sizes.specs.Limits.{most_outputs, most_frames, most_bits}
use Rattle.sizes.specs.Sizes.{inputs, outputs, frames}
use Rattle.sizes.specs.declared.Sizes.{Sizes}

-- n, m and T are within the limits
pub record Sized (most n m T : ℕ) : Type 0 where
  pub inputs_from : 1 ≤ n
  pub inputs_to : n ≤ most
  pub outputs_from : 1 ≤ m
  pub outputs_to : m ≤ most_outputs
  pub frames_from : 1 ≤ T
  pub frames_to : T ≤ most_frames
  pub bits_to : n * T ≤ most_bits

-- T words, each below 2^n
pub record Fed (n T : ℕ) (words : List ℕ) : Type 0 where
  pub as_many : length words ≡ T
  pub below : (t : ℕ) → t < T → get_or words t 0 < 2 ^ n

-- the sizes of b
abbrev pub sizes_of : List ℕ → Sizes
sizes_of b = record { inputs = inputs b; outputs = outputs b; frames = frames b }
