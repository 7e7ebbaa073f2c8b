-- Records as nodes.
use Rattle.std.specs.Prelude.{cond, List, ℕ, ◌+◌, ◌-◌, ◌≤◌, ◌<◌, ltb, length, get_or}
use Rattle.diagrams.specs.Diagrams.{Nodes}
use Rattle.diagrams.specs.Making.{Table, no_id}
use Rattle.nodes.specs.declared.Node.{Node}

-- no record
abbrev pub none : Node
none = record { level = 0; low = 0; high = 0 }

-- the record of an id: the constants have the lowest level that there is
unfoldable pub node_of : List Node → (f : ℕ) → Node
node_of ns f = cond (ltb f 2) (record { level = no_id; low = 0; high = 0 }) (get_or ns (f - 2) none)

-- the nodes of a list of records
unfoldable pub nodes_in : List Node → Nodes
nodes_in ns = record { level = λ f. (node_of ns f).level; low = λ f. (node_of ns f).low; high = λ f. (node_of ns f).high }

-- the first R records are nodes of N inputs, the others are none; R is within the list, and small enough that no id is `no_id`
pub record Kept (N R : ℕ) (ns : List Node) : Type 0 where
  pub table : Table N R (nodes_in ns)
  pub within : R ≤ length ns
  pub room : R + 2 < no_id
