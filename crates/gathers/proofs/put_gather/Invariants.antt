-- `gathers::put_gather` meets its contract. The invariant: the gates of the edges so far are stored.
-- Assumes nothing.
use mathlib.Core.Path.{◌≡◌}
use Prim.Native.Nat.{◌+◌, ◌≤◌}
use lib.ListN.{length}
use Rattle.unfolded.specs.Unfolded.{chain, inverted_edges}
use Rattle.chains.specs.Chains.{gates_stored}
use Rattle.gathers.proofs.Edges.{belongs}
use Rattle.gathers.proofs.put_gather.Given as goal

abbrev pub invariant-loop-e : goal.invariant-loop-e
invariant-loop-e l =
    (l.e ≤ l.count) × (l.end ≡ l.k + length (inverted_edges l.edges (belongs l.key l.entries l.i) l.e))
    × (l.res ≡ gates_stored l.target.gates l.k l.initial.res (chain (l.target.base + l.k) 1 (inverted_edges l.edges (belongs l.key l.entries l.i) l.e)))
