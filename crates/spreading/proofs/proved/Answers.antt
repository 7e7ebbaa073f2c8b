-- The contract of `proved`.
use Rattle.spreading.proofs.Outcomes.{as_folding}
use Rattle.spreading.proofs.Theorems.{spreadings}
use Rattle.spreading.proofs.Nodes.{own_gates}
use Rattle.spreading.proofs.proved.Goals as goal

pub returns : goal.returns
returns c =
    record {
      spreadings = spreadings;
      folding = as_folding;
      gates = own_gates;
    }
