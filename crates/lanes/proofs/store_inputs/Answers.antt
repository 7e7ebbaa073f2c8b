-- `lanes::store_inputs` meets its contract. The invariant: the lanes of the constant and of the inputs of the first f frames are stored, and the gates
-- before `start` are settled.
-- Assumes nothing.
use mathlib.Core.Path.{◌≡◌, refl, sym, ◌∙◌, subst}
use mathlib.Core.List.{List}
use Prim.Native.Nat.{ℕ, ◌+◌, ◌*◌, ◌≤◌, ◌<◌}
use native.Mathlib.Nat.{zero-mul, mul-le-mul_right}
use native.Mathlib.Omega.{arith}
use lib.ListN.{length, get_or, set, length-set}
use lib.Seq.{get_or-set_same}
use Rattle.sizes.specs.Limits.{most_bits}
use Rattle.circuit.specs.Circuit.{gates}
use Rattle.circuit.specs.WellFormed.{WellFormed}
use Rattle.circuit.proofs.Frames.{next_from, inputs_are}
use Rattle.lanes.specs.Lanes.{NumberLanes, InputLanes, Settled, Ready}
use Rattle.lanes.proofs.Laws.{inputs_none, inputs_framed, settled_used, settled_none}
use Rattle.lanes.proofs.store_inputs.Goals as goal
use Rattle.lanes.proofs.store_inputs.Goals.{then-lanes-eq0, else-lanes-eq0}

-- the constant is stored: in room that was not used yet no gate is settled
first_used : (b v : List ℕ) (k : ℕ) → Ready b v → k ≡ gates b → get_or v 0 0 ≡ 0 → Settled b (set v 0 0) k
first_used b v k R e z = settled_used b v k R e z

first_none : (b v : List ℕ) (k : ℕ) → k ≡ 0 → Settled b (set v 0 0) k
first_none b v k e = subst (Settled b (set v 0 0)) (sym e) (settled_none b (set v 0 0))

pub loop-f-init : goal.loop-f-init
loop-f-init c = (
  omega arith,
  refl,
  get_or-set_same c.args.lanes.now 0 0 0 (omega (arith, c.requires)),
  omega arith,
  λ T h ht N. subst (λ i. InputLanes c.args.head.inputs T c.args.t h i (set c.args.lanes.now 0 0)) (sym (zero-mul c.args.head.inputs)) (inputs_none c.args.head.inputs T c.args.t h c.args.lanes.now (omega (arith, c.requires))),
  λ b e F S. S,
)

pub store_frame-start-requires : goal.store_frame-start-requires
store_frame-start-requires c =
    let few : (c.loop-f.f + 1) * c.args.head.inputs ≤ c.args.head.frames * c.args.head.inputs =
    mul-le-mul_right c.args.head.inputs (omega (arith, c))
    in
    let room : most_bits < length c.loop-f.lanes =
    omega (arith, c.loop-f.invariant.1, length-set c.args.lanes.now 0 0, c.requires)
    in
    let l : c.args.t * c.args.head.inputs ≤ c.args.head.frames * c.args.head.inputs = mul-le-mul_right c.args.head.inputs (omega (arith, c.requires)) in
    record {
      le_frame = (omega arith, omega (arith, c.requires), omega (arith, few, c.requires));
      most_bits_in_bounds = omega (arith, c.requires, room);
    }

pub loop-f-preserved : goal.loop-f-preserved
loop-f-preserved c =
    let few : (c.loop-f.f + 1) * c.args.head.inputs ≤ c.args.head.frames * c.args.head.inputs =
    mul-le-mul_right c.args.head.inputs (omega (arith, c))
    in (
      omega (arith, c),
      c.store_frame-start.auto.lanes ∙ c.loop-f.invariant.1,
      c.store_frame-start.ensures.start.1 ∙ c.loop-f.invariant.2,
      omega (arith, c.store_frame-start.ensures.start.0, c.loop-f.invariant.3),
      λ T h ht N. c.store_frame-start.ensures.inputs T h ht N (subst (λ x. InputLanes c.args.head.inputs T c.args.t h x c.loop-f.lanes) (sym (next_from c.loop-f.f (c.loop-f.f + 1) c.args.head.inputs refl)) (c.loop-f.invariant.4 T h ht N)),
      λ b e F S. c.store_frame-start.ensures.settled b (omega (arith, few)) F (c.loop-f.invariant.5 b e F S),
    )

pub returns : goal.returns
returns c =
    let first-settled : (b : List ℕ) → WellFormed b c.args.head → Ready b c.args.lanes.now → Settled b (set c.args.lanes.now 0 0) c.if-lanes-eq0.start =
    λ b W R. elim c.if-lanes-eq0.branch [
      | then-lanes-eq0 w ↦ first_used b _ _ R (w.start-is ∙ W.head_is.gates_is) w.if-lanes-eq0.true
      | else-lanes-eq0 w ↦ first_none b _ _ w.start-is
    ]
    in
    let first_to : c.if-lanes-eq0.start ≤ c.args.head.gates =
    elim c.if-lanes-eq0.branch [ then-lanes-eq0 w ↦ omega arith | else-lanes-eq0 w ↦ omega arith ]
    in
    let e : c.loop-f.f ≡ c.args.head.frames = omega (arith, c, c.loop-f.invariant.0) in
    let stored : (hs : ℕ → ℕ) → NumberLanes c.args.numbers.now hs → InputLanes c.args.head.inputs c.args.head.frames c.args.t hs (c.args.head.frames * c.args.head.inputs) c.loop-f.lanes =
    λ hs N. subst (λ f. InputLanes c.args.head.inputs c.args.head.frames c.args.t hs (f * c.args.head.inputs) c.loop-f.lanes) e (c.loop-f.invariant.4 c.args.head.frames hs (omega (arith, c.requires)) N) in record {
      inputs = stored;
      settled = λ b W F R. c.loop-f.invariant.5 b (inputs_are b c.args.head.inputs c.args.head.frames W.head_is.inputs_is W.head_is.frames_is) F (first-settled b W R);
      start = (omega (arith, c.loop-f.invariant.3, first_to), c.loop-f.invariant.2);
      frames = λ hs N. inputs_framed c.args.head.inputs c.args.head.frames c.args.t hs c.loop-f.lanes (stored hs N);
    }
