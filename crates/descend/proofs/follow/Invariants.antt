use Rattle.std.proofs.Common.{suc, ◌-◌, ◌≡◌, ◌<◌}
use Rattle.diagrams.specs.Diagrams.{follow as leads_to}
use Rattle.diagrams.specs.Frames.{word_bits}
use Rattle.records.specs.Records.{node_of, nodes_in}
use Rattle.descend.proofs.follow.Given as goal

-- x is the record of the node id, which leads where f does
abbrev pub invariant-loop-x : goal.invariant-loop-x
invariant-loop-x l = record {
  node_is : l.x ≡ node_of l.nodes l.id;
  stands : 0 < (nodes_in l.nodes).level l.id;
  leads : leads_to (nodes_in l.nodes) 1 (word_bits l.top l.path) l.f ≡ leads_to (nodes_in l.nodes) 1 (word_bits l.top l.path) l.id;
}

abbrev pub decreases-loop-x : goal.decreases-loop-x
decreases-loop-x l = suc l.top - (nodes_in l.nodes).level l.id
