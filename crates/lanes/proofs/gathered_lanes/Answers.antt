-- `lanes::gathered_lanes` meets its contract. The invariant: the number so far has the bits of the histories from j on.
-- Assumes nothing.
use mathlib.Core.Path.{◌≡◌, ap, ◌∙◌}
use Prim.Native.Nat.{◌-◌, ◌^◌, ◌<◌}
use native.Mathlib.Omega.{arith}
use lib.ListN.{length, take, drop, length-take}
use lib.Seq.{take_all}
use Rattle.circuit.specs.Lists.{packed}
use Rattle.circuit.proofs.Laws.{packed_below, packed_more}
use Rattle.lanes.specs.Lanes.{lane}
use Rattle.lanes.proofs.Laws.{lane_length, digit_is}
use Rattle.lanes.proofs.gathered_lanes.Goals as goal

pub loop-j-init : goal.loop-j-init
unfolding packed
loop-j-init c =
    let z : length c.args.histories.now - length c.args.histories.now ≡ 0 = omega arith in
    (omega arith, rw z)

pub overflow_mul-lanes : goal.overflow_mul-lanes
overflow_mul-lanes c =
    let small : c.loop-j.lanes < 2 ^ 31 =
    let p = packed_below (take (length c.args.histories.now - c.loop-j.j) (drop c.loop-j.j (lane c.args.place c.args.histories.now))) 31 (simp length-take (omega arith)) in
    omega (arith, p)
    in
    omega (arith, small)

pub overflow_add-lanes : goal.overflow_add-lanes
overflow_add-lanes c =
    let small : c.loop-j.lanes < 2 ^ 31 =
    let p = packed_below (take (length c.args.histories.now - c.loop-j.j) (drop c.loop-j.j (lane c.args.place c.args.histories.now))) 31 (simp length-take (omega arith)) in
    omega (arith, p)
    in
    omega (arith, small)

pub loop-j-preserved : goal.loop-j-preserved
loop-j-preserved c =
    let i = c.loop-j.j - 1 in (
      omega arith,
      packed_more (lane c.args.place c.args.histories.now) i c.loop-j.j (length c.args.histories.now - c.loop-j.j) (length c.args.histories.now - i) c.loop-j.lanes _
          (omega (arith, lane_length c.args.histories.now c.args.place)) (omega arith) (omega arith) c.loop-j.invariant.1 (digit_is c.args.histories.now i c.args.place),
    )

pub returns : goal.returns
returns c =
    let z : c.loop-j.j ≡ 0 = omega arith in
    c.loop-j.invariant.1 ∙ rw z (ap packed (take_all (length c.args.histories.now - 0) (lane c.args.place c.args.histories.now) (omega (arith, lane_length c.args.histories.now c.args.place))))
