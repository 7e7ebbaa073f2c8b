-- `draw::put_outputs` meets its contract. The invariant: the gates of the first t frames are stored.
-- Assumes nothing.
use mathlib.Core.Path.{◌≡◌, sym, ap, ◌∙◌}
use mathlib.Core.List.{[]}
use Prim.Native.Nat.{ℕ, ◌+◌, ◌*◌, ◌≤◌, ◌<◌}
use native.Mathlib.Nat.{mul-suc, mul-zero, mul-le-mul_left}
use native.Mathlib.Omega.{arith}
use Rattle.sizes.specs.Sizes.{outputs, frames}
use Rattle.circuit.specs.Lists.{grown, listed}
use Rattle.table.proofs.Offsets.{laid, head_length_lem}
use Rattle.chains.specs.Chains.{gates_stored}
use Rattle.chains.specs.declared.Target.{Target}
use Rattle.chains.proofs.Stored.{gates_none}
use Rattle.draw.proofs.Outputs.{gate_of, frame_stored}
use Rattle.draw.proofs.put_outputs.Goals as goal

pub loop-t-init : goal.loop-t-init
unfolding grown
loop-t-init c =
    (omega arith, sym (gates_none _ _ _) ∙ ap (λ (q : ℕ). gates_stored c.args.target.gates c.args.k c.args.res.now (listed [] (gate_of c.args.table.now c.args.literals.now) q)) (sym (mul-zero (outputs c.args.table.now))))

pub connected_of-connected-requires-clause-last_in_bounds : goal.connected_of-connected-requires-clause-last_in_bounds
connected_of-connected-requires-clause-last_in_bounds c =
    let l = laid c.args.table.now c.args.layout c.requires.sound.headed c.requires.layout_value in
    omega (arith, l.outputs-at, l.nexts-at, l.end_at, head_length_lem c.args.layout.frames)

pub loop-t-preserved : goal.loop-t-preserved
loop-t-preserved c =
    let b = c.args.table.now in
    let m : ℕ = outputs b in
    let outputs_are : c.args.target.outputs ≡ m = ap (λ (target : Target). target.outputs) c.requires.target_value.0 in
    let early : c.loop-t.t < frames b = omega (arith, c.loop-t-test.true, (laid b c.args.layout c.requires.sound.headed c.requires.layout_value).frames_is) in
    let among : m * c.loop-t.t + m ≤ m * frames b = omega (arith, mul-suc m c.loop-t.t, mul-le-mul_left m early) in (
      omega (arith, c.loop-t-test.true),
      frame_stored b c.args.literals.now c.loop-t.t c.args.target.gates c.args.k c.args.target.outputs c.connected_of-connected.result c.args.res.now c.loop-t.res _
          outputs_are c.connected_of-connected.ensures.0 c.loop-t.invariant.1 c.put_frame_outputs.ensures (omega (arith, among, c.requires.table_bound.0)) c.requires.target_value.1.room,
    )
