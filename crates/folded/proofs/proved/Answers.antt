-- The contract of `proved`: what proofs/Matching, proofs/Theorems, proofs/Plans and proofs/Nodes prove.
use Rattle.folded.proofs.Matching.{matches_bits}
use Rattle.folded.proofs.Theorems.{foldings}
use Rattle.folded.proofs.Plans.{askings, committing}
use Rattle.folded.proofs.Nodes.{too_many_nodes, enough_nodes, more_nodes}
use Rattle.folded.proofs.proved.Goals as goal

pub returns : goal.returns
returns c =
    record {
      matching = matches_bits;
      foldings = foldings;
      askings = askings;
      committings = committing;
      nodes = too_many_nodes;
      enough = enough_nodes;
      more = more_nodes;
    }
