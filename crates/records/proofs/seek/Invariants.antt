use Rattle.std.proofs.Common.{◌≡◌, ◌+◌, ◌<◌}
use Rattle.diagrams.specs.Making.{home, place}
use Rattle.diagrams.proofs.Probing.{Passed}
use Rattle.records.specs.Records.{nodes_in}
use Rattle.records.proofs.seek.Given as goal

-- the next place has this id, and those before it were passed
abbrev pub invariant-loop : goal.invariant-loop
invariant-loop l = record {
  id_is : l.counter < l.room → l.id ≡ place l.room (home l.room l.level l.low l.high) l.counter + 2;
  passed : Passed l.room (nodes_in l.nodes) l.level l.low l.high l.counter;
}
