-- The contract of `proved`: what proofs/Theorems proves.
use Rattle.unfolded.proofs.Theorems.{unfoldings}
use Rattle.unfolded.proofs.proved.Goals as goal

pub returns : goal.returns
returns c =
    unfoldings
