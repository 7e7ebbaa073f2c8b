-- The first frames of a circuit (document 02, Point 14).
use Rattle.std.specs.Prelude.{ℕ, ◌^◌, ◌≤◌, ◌<◌, ◌≡◌, List, take}
use Rattle.sizes.specs.Sizes.{inputs, outputs, frames}
use Rattle.layered.specs.States.{Words}
use Rattle.circuit.specs.Circuit.{connected_outputs, output_words}

-- the circuit d is the first frames of the circuit b, however either is drawn
pub record FirstFrames (b d : List ℕ) : Type 0 where
  -- as many inputs and outputs a frame, and no more frames
  pub same_inputs : inputs d ≡ inputs b
  pub same_outputs : outputs d ≡ outputs b
  pub no_longer : frames d ≤ frames b
  -- in the frames of d the same outputs are connected
  pub same_connected : (k : ℕ) → k < frames d → connected_outputs d k ≡ connected_outputs b k
  -- on every sequence of b, d gives what b gives in these frames
  pub same_words : (c : List ℕ) → Words (2 ^ inputs b) (frames b) c → output_words d (take (frames d) c) ≡ take (frames d) (output_words b c)
