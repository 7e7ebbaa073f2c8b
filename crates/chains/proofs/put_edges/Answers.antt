-- `chains::put_edges` meets its contract. The invariant: the first e edges are stored.
-- Assumes nothing.
use mathlib.Core.Path.{sym, ◌∙◌}
use Prim.Native.Nat.{◌+◌}
use native.Mathlib.Omega.{arith}
use Rattle.circuit.specs.Lists.{grown}
use Rattle.chains.specs.Chains.{edge_of}
use Rattle.chains.proofs.Laws.{edge_is}
use Rattle.chains.proofs.Stored.{gates_none, each_more}
use Rattle.chains.proofs.put_edges.Goals as goal

pub loop-e-init : goal.loop-e-init
unfolding grown
loop-e-init c =
    (omega arith, sym (gates_none _ _ _))

pub loop-e-preserved : goal.loop-e-preserved
loop-e-preserved c = (
  omega arith,
  c.put_gate.ensures
      ∙ each_more c.args.target.gates c.args.k c.args.res.now c.loop-e.res (edge_of c.args.target.inputs (c.args.target.base + c.args.matches) c.args.states.now) c.loop-e.e (c.args.k + c.loop-e.e) _ c.loop-e.invariant.1 (omega arith)
      (edge_is _ _ _ c.loop-e.e _ c.args.states.now c.requires.fits.words_are c.match_literal-matched.ensures.0) (omega (arith, c.loop-e-test.true, c.requires.matches_le_k)) c.requires.fits.room,
)
