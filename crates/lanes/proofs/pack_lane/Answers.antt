-- `lanes::pack_lane` meets its contract. The invariant: the word so far is that of the signals from k on.
-- Assumes nothing.
use mathlib.Core.Path.{◌≡◌, ap₂, ◌∙◌}
use Prim.Native.Nat.{ℕ, ◌+◌, ◌-◌, ◌<◌}
use native.Mathlib.Omega.{arith}
use lib.ListN.{take, drop, length-take}
use Rattle.circuit.specs.Lists.{packed}
use Rattle.circuit.proofs.Laws.{packed_below, packed_more}
use Rattle.lanes.specs.Lanes.{lane}
use Rattle.lanes.proofs.Laws.{lane_length, digit_is}
use Rattle.lanes.proofs.pack_lane.Goals as goal

pub loop-k-init : goal.loop-k-init
unfolding packed
loop-k-init c =
    let z : c.args.count - c.args.count ≡ 0 = omega arith in
    (omega arith, rw z)

pub overflow_mul-word : goal.overflow_mul-word
overflow_mul-word c =
    let small : c.loop-k.word < 32768 =
    let p = packed_below (take (c.args.count - c.loop-k.k) (drop (c.args.at + c.loop-k.k) (lane c.args.j c.args.lanes.now))) 15 (simp length-take (omega arith)) in
    omega (arith, p)
    in
    omega (arith, small)

pub overflow_add-word-in-loop-k : goal.overflow_add-word-in-loop-k
overflow_add-word-in-loop-k c =
    let small : c.loop-k.word < 32768 =
    let p = packed_below (take (c.args.count - c.loop-k.k) (drop (c.args.at + c.loop-k.k) (lane c.args.j c.args.lanes.now))) 15 (simp length-take (omega arith)) in
    omega (arith, p)
    in
    omega (arith, small)

pub loop-k-preserved : goal.loop-k-preserved
loop-k-preserved c =
    let i = c.args.at + (c.loop-k.k - 1) in (
      omega arith,
      packed_more (lane c.args.j c.args.lanes.now) i (c.args.at + c.loop-k.k) (c.args.count - c.loop-k.k) (c.args.count - (c.loop-k.k - 1)) c.loop-k.word _
          (omega (arith, lane_length c.args.lanes.now c.args.j)) (omega arith) (omega arith) c.loop-k.invariant.1 (digit_is c.args.lanes.now i c.args.j),
    )

pub returns : goal.returns
returns c =
    let x : c.args.count - c.loop-k.k ≡ c.args.count = omega arith in
    let y : c.args.at + c.loop-k.k ≡ c.args.at = omega arith in
    c.loop-k.invariant.1 ∙ ap₂ (λ (x y : ℕ). packed (take x (drop y (lane c.args.j c.args.lanes.now)))) x y
