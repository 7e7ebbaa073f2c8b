-- `lanes::pack_frames` meets its contract. The invariant: the words of the first t frames are stored.
-- Assumes nothing.
use mathlib.Core.Path.{◌≡◌, refl, sym, ap, ◌∙◌}
use mathlib.Core.List.{List, []}
use Prim.Native.Nat.{ℕ, suc, ◌+◌, ◌*◌, ◌≤◌}
use native.Mathlib.Nat.{mul-suc, mul-le-mul_left}
use native.Mathlib.Omega.{arith}
use lib.ListN.{length, take, drop, length-set}
use lib.Seq.{take_all}
use Rattle.circuit.specs.Lists.{grown, listed, packed}
use Rattle.circuit.proofs.Laws.{fill_grown}
use Rattle.lanes.specs.Lanes.{lane}
use Rattle.lanes.proofs.pack_frames.Goals as goal

-- the word of frame t
abbrev word : (lanes : List ℕ) (at count j t : ℕ) → ℕ
word lanes at count j t = packed (take count (drop (at + count * t) (lane j lanes)))

pub loop-t-init : goal.loop-t-init
unfolding grown
loop-t-init c =
    (omega arith, refl, refl, refl)

pub pack_lane-requires : goal.pack_lane-requires
pack_lane-requires c =
    let there : c.args.at + c.args.count * c.loop-t.t + c.args.count ≤ length c.args.lanes.now =
    let l : c.args.count * suc c.loop-t.t ≤ c.args.count * length c.args.words.now = mul-le-mul_left c.args.count (omega (arith, c)) in
    omega (arith, mul-suc c.args.count c.loop-t.t, c.requires)
    in
    (omega arith, there, omega arith)

pub loop-t-preserved : goal.loop-t-preserved
loop-t-preserved c = (
  omega arith,
  refl,
  simp length-set c.loop-t.invariant.2,
  fill_grown [] (λ _ t. word c.args.lanes.now c.args.at c.args.count c.args.j t) c.loop-t.words c.loop-t.t c.loop-t.t c.pack_lane.result (omega arith) c.loop-t.invariant.3 c.pack_lane.ensures
      (c.loop-t.t + 1) (c.loop-t.t + 1) refl refl,
)

pub returns : goal.returns
returns c =
    let e : c.loop-t.t ≡ length c.args.words.now = omega arith in
    sym (take_all c.loop-t.t c.loop-t.words (omega arith)) ∙ c.loop-t.invariant.3 ∙ ap (listed [] (word c.args.lanes.now c.args.at c.args.count c.args.j)) e
