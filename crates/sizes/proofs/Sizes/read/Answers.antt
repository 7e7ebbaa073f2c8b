-- `sizes::Sizes::read` meets its contract.
-- Assumes nothing.
use Rattle.sizes.specs.Sizes.{inputs, outputs, frames}
use Rattle.sizes.proofs.Sizes.read.Goals as goal

pub returns : goal.returns
unfolding frames inputs outputs
returns c =
    λ i. record { inputs = c.read-inputs.ensures.0 i; outputs = c.read-outputs.ensures.0 i; frames = c.read-frames.ensures.0 i }
