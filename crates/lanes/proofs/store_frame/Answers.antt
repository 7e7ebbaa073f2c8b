-- `lanes::store_frame` meets its contract. The invariant: the lanes of the first k inputs of the frame are stored too, and the gates before `least`
-- are settled.
-- Assumes nothing.
use mathlib.Core.Path.{◌≡◌, refl, ◌∙◌, subst}
use Prim.Native.Nat.{◌+◌, ◌*◌, ◌-◌, ◌≤◌, ◌<◌}
use native.Mathlib.Omega.{arith}
use lib.ListN.{length, get_or, length-set}
use lib.Seq.{get_or-set_other}
use Rattle.sizes.specs.Limits.{most_bits}
use Rattle.circuit.proofs.Frames.{ends}
use Rattle.lanes.specs.Lanes.{InputLanes}
use Rattle.lanes.proofs.Laws.{inputs_more, lower, settled_input}
use Rattle.lanes.proofs.store_frame.Goals as goal

pub loop-k-init : goal.loop-k-init
loop-k-init c =
    let i = (c.args.frame - 1) * c.args.inputs in
    let none : i ≡ i + 0 = omega arith in (
      omega arith,
      refl,
      refl,
      omega arith,
      λ T h ht N L. subst (λ k. InputLanes c.args.inputs T c.args.t h k c.args.lanes.now) none L,
      λ b e F S. S,
    )

pub input_lanes-after-requires : goal.input_lanes-after-requires
input_lanes-after-requires c =
    omega (arith, c, c.requires)

pub loop-k-preserved : goal.loop-k-preserved
loop-k-preserved c =
    let end_at : c.args.frame * c.args.inputs ≡ (c.args.frame - 1) * c.args.inputs + c.args.inputs =
    ends c.args.frame c.args.inputs c.requires.le_frame.0
    in
    let few : ((1 + (c.args.frame - 1) * c.args.inputs + c.loop-k.k) ≤ c.args.frame * c.args.inputs) × ((1 + (c.args.frame - 1) * c.args.inputs + c.loop-k.k) ≤ most_bits) =
    omega (arith, c, end_at, c.requires)
    in
    let room : (1 + (c.args.frame - 1) * c.args.inputs + c.loop-k.k) < length c.loop-k.lanes =
    omega (arith, few, c.loop-k.invariant.1, c.requires)
    in
    let s = (1 + (c.args.frame - 1) * c.args.inputs + c.loop-k.k) in (
      omega (arith, c),
      length-set c.loop-k.lanes s c.input_lanes-after.result ∙ c.loop-k.invariant.1,
      get_or-set_other c.loop-k.lanes s 0 c.input_lanes-after.result 0 (λ e. omega arith) ∙ c.loop-k.invariant.2,
      lower (get_or c.loop-k.lanes s 0) c.input_lanes-after.result c.loop-k.least (get_or c.args.firsts.now s 0) c.restart-least.ensures c.loop-k.invariant.3,
      λ T h ht N L. inputs_more c.args.inputs T c.args.t h c.loop-k.lanes s c.args.frame c.loop-k.k c.input_lanes-after.result (omega arith) (omega (arith, c)) room (c.loop-k.invariant.4 T h ht N L) (c.input_lanes-after.ensures T h ht N),
      λ b e F S. settled_input b c.loop-k.lanes c.args.firsts.now c.loop-k.least s c.input_lanes-after.result c.restart-least.result (omega (arith, few)) F c.restart-least.ensures (c.loop-k.invariant.5 b e F S),
    )

pub returns : goal.returns
returns c =
    let end_at : c.args.frame * c.args.inputs ≡ (c.args.frame - 1) * c.args.inputs + c.args.inputs =
    ends c.args.frame c.args.inputs c.requires.le_frame.0
    in
    let e : (c.args.frame - 1) * c.args.inputs + c.loop-k.k ≡ c.args.frame * c.args.inputs = omega (arith, c, c.loop-k.invariant.0, end_at) in record {
      inputs = λ T h ht N L. subst (λ i. InputLanes c.args.inputs T c.args.t h i c.loop-k.lanes) e (c.loop-k.invariant.4 T h ht N L);
      settled = c.loop-k.invariant.5;
      start = (c.loop-k.invariant.3, c.loop-k.invariant.2);
    }
