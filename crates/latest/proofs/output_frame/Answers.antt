-- `latest::output_frame` meets its contract. The invariant: frame t does not begin after output q.
-- Assumes nothing.
use mathlib.Core.Path.{refl}
use Prim.Native.Nat.{◌+◌}
use native.Mathlib.Omega.{arith}
use Rattle.circuit.specs.Frames.{OutputOf}
use Rattle.circuit.proofs.Frames.{next_from, frame_is, only_output}
use Rattle.latest.proofs.output_frame.Goals as goal

pub loop-t-init : goal.loop-t-init
loop-t-init c =
    omega (arith, c.requires)

pub loop-t-preserved : goal.loop-t-preserved
loop-t-preserved c =
    omega (arith, c, next_from c.loop-t.t (c.loop-t.t + 1) c.args.outputs refl)

pub returns : goal.returns
returns c =
    let o : OutputOf c.args.outputs c.loop-t.t c.args.q = omega (arith, c) in
    record {
      frame = frame_is c.args.outputs c.loop-t.t c.args.q o;
      only = only_output c.args.outputs c.loop-t.t c.args.q o;
    }
