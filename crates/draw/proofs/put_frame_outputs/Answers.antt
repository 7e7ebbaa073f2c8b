-- `draw::put_frame_outputs` meets its contract. The invariant: the first j gates are stored.
-- Assumes nothing.
use mathlib.Core.Path.{◌≡◌, refl, sym, ap, ◌∙◌}
use mathlib.Core.Bool.{Bool}
use Prim.Native.Nat.{◌+◌}
use native.Mathlib.Omega.{arith}
use lib.ListN.{get_or}
use Rattle.circuit.specs.Lists.{grown, bit}
use Rattle.chains.proofs.Stored.{gates_none, each_more}
use Rattle.draw.proofs.Outputs.{gate_by, gate_pair, gate_in}
use Rattle.draw.proofs.put_frame_outputs.Goals as goal

pub loop-j-init : goal.loop-j-init
unfolding grown
loop-j-init c =
    (omega arith, sym (gates_none _ _ _))

pub loop-j-preserved : goal.loop-j-preserved
loop-j-preserved c =
    let t = bit c.args.connected c.loop-j.j in
    let l = get_or c.args.literals.now (c.args.from + c.loop-j.j) 0 in
    let gate_is : c.output_gate-gate.result ≡ gate_by t l = c.output_gate-gate.ensures ∙ ap (λ (t : Bool). gate_by t l) c.is_set.ensures in (
      omega (arith, c.loop-j-test.true),
      c.put_gate.ensures
          ∙ each_more c.args.target.gates c.args.k c.args.res.now c.loop-j.res (gate_in c.args.connected c.args.from c.args.literals.now) c.loop-j.j (c.args.k + c.loop-j.j) _ c.loop-j.invariant.1 refl
          (gate_pair t _ c.output_gate-gate.result gate_is) (omega (arith, c.loop-j-test.true, c.requires.outputs_bound)) c.requires.fits.room,
    )
