-- The contract of `proved`: what proofs/Figures proves.
use Rattle.vectors.proofs.Vectors.{vectors_hold, each_holds}
use Rattle.vectors.proofs.proved.Goals as goal

pub returns : goal.returns
returns c =
    record {
      test = vectors_hold;
      each = each_holds;
    }
