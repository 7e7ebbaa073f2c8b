-- `chains::put_edges` meets its contract. The invariant: the first e edges are stored.
-- Assumes nothing.
use mathlib.Core.Path.{◌≡◌}
use mathlib.Core.List.{[]}
use Prim.Native.Nat.{◌+◌, ◌≤◌}
use Rattle.circuit.specs.Lists.{listed}
use Rattle.chains.specs.Chains.{gates_stored, edge_of}
use Rattle.chains.proofs.put_edges.Given as goal

abbrev pub invariant-loop-e : goal.invariant-loop-e
invariant-loop-e l =
    (l.e ≤ l.count) × (l.res ≡ gates_stored l.target.gates l.k l.initial.res (listed [] (edge_of l.target.inputs (l.target.base + l.matches) l.states) l.e))
