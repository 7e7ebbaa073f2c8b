-- `chains::put_matches` meets its contract. The invariant: the chains of the first w words are stored.
-- Assumes nothing.
use mathlib.Core.Path.{◌≡◌}
use Prim.Native.Nat.{◌+◌, ◌≤◌}
use Rattle.unfolded.specs.Unfolded.{chains_from, matching}
use Rattle.chains.specs.Chains.{gates_stored}
use Rattle.chains.proofs.put_matches.Given as goal

abbrev pub invariant-loop-w : goal.invariant-loop-w
invariant-loop-w l =
    (l.w ≤ l.words) × (l.res ≡ gates_stored l.target.gates l.k l.initial.res (chains_from (l.target.base + l.k) (matching l.target.inputs l.t) l.w))
