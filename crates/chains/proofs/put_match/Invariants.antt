-- `chains::put_match` meets its contract. The invariant: the chain's first i gates are stored.
-- Assumes nothing.
use mathlib.Core.Path.{◌≡◌}
use mathlib.Core.List.{[]}
use Prim.Native.Nat.{◌+◌, ◌≤◌}
use Rattle.circuit.specs.Lists.{listed}
use Rattle.unfolded.specs.Unfolded.{chain, input_literal}
use Rattle.chains.specs.Chains.{gates_stored}
use Rattle.chains.proofs.put_match.Given as goal

abbrev pub invariant-loop-i : goal.invariant-loop-i
invariant-loop-i l =
    (l.i ≤ l.inputs) × (l.res ≡ gates_stored l.target.gates l.k l.initial.res (chain (l.target.base + l.k) 1 (listed [] (input_literal l.inputs l.t l.w) l.i)))
