-- The contract of `proved`: what proofs/Theorems proves.
use Rattle.prefix.proofs.Theorems.{stages, folded_stages, one_table}
use Rattle.prefix.proofs.proved.Goals as goal

pub returns : goal.returns
returns c =
    record {
      stages = stages;
      folded = folded_stages;
      one = one_table;
    }
