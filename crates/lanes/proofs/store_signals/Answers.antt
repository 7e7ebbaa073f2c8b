-- `lanes::store_signals` meets its contract. The invariant: the lanes of the inputs are stored, and the gates before g are settled.
-- Assumes nothing.
use mathlib.Core.Path.{◌≡◌, refl, ◌∙◌, subst}
use Prim.Native.Nat.{◌+◌, ◌*◌, ◌/◌, ◌^◌, ◌<◌}
use native.Mathlib.Omega.{arith}
use lib.ListN.{length, get_or, length-set}
use lib.Seq.{get_or-set_other}
use borrow.Author.Rules.{rules}
use Rattle.circuit.specs.Circuit.{gates, all_inputs}
use Rattle.circuit.proofs.Laws.{signals_fit}
use Rattle.circuit.proofs.Frames.{inputs_are}
use Rattle.lanes.specs.Limits.{lane_count}
use Rattle.lanes.specs.Lanes.{Settled}
use Rattle.lanes.proofs.Laws.{inputs_stored, inputs_kept, settled_more, settled_signals}
use Rattle.lanes.proofs.store_signals.Goals as goal

pub store_inputs-start-requires : goal.store_inputs-start-requires
store_inputs-start-requires c =
    let inputs_to : c.args.head.frames * c.args.head.inputs ≡ all_inputs c.args.circuit.now =
    inputs_are c.args.circuit.now c.args.head.inputs c.args.head.frames c.requires.well_formed.head_is.inputs_is c.requires.well_formed.head_is.frames_is
    in
    record {
      le_inputs = (omega (arith, c.requires), omega (arith, c.requires, inputs_to), omega (arith, c.requires));
      most_bits_in_bounds = (omega (arith, c.requires), omega (arith, c.requires), omega (arith, c.requires));
    }

pub loop-g-init : goal.loop-g-init
loop-g-init c = (
  c.store_inputs-start.ensures.start.0,
  omega (arith, c.store_inputs-start.auto.lanes, c.requires),
  refl,
  c.store_inputs-start.ensures.start.1,
  λ hs N. inputs_stored c.args.circuit.now c.args.t hs c.store_inputs-start.new.lanes c.args.head.inputs c.args.head.frames c.args.head.base c.requires.well_formed.head_is.inputs_is c.requires.well_formed.head_is.frames_is c.requires.well_formed.head_is.base_is (c.store_inputs-start.ensures.inputs hs N),
  c.store_inputs-start.ensures.settled c.args.circuit.now c.requires.well_formed c.requires.first_uses.0 c.requires.first_uses.1,
)

pub loop-g-preserved : goal.loop-g-preserved
loop-g-preserved c =
    let gate : c.loop-g.g < gates c.args.circuit.now = omega (arith, c, c.requires) in
    let room : c.args.head.base + c.loop-g.g < length c.loop-g.lanes = omega (arith, gate, c.requires, c.loop-g.invariant.1) in
    let left-fits : get_or c.loop-g.lanes (c.read_gate-gate.result.left / 2) 0 < 2 ^ lane_count = search rules in
    let right-fits : get_or c.loop-g.lanes (c.read_gate-gate.result.right / 2) 0 < 2 ^ lane_count = search rules in (
      omega (arith, gate, c.requires),
      simp length-set c.loop-g.invariant.1,
      length-set c.loop-g.lanes (c.args.head.base + c.loop-g.g) _ ∙ c.loop-g.invariant.2,
      get_or-set_other c.loop-g.lanes (c.args.head.base + c.loop-g.g) 0 _ 0 (λ e. omega (arith, c.requires)) ∙ c.loop-g.invariant.3,
      λ hs N. inputs_kept c.args.circuit.now c.args.t hs c.loop-g.lanes c.args.head.base (c.args.head.base + c.loop-g.g) _ (omega arith) (c.loop-g.invariant.4 hs N),
      settled_more c.args.circuit.now c.requires.well_formed.legal c.loop-g.lanes c.loop-g.g (c.args.head.base + c.loop-g.g) c.read_gate-gate.result.left c.read_gate-gate.result.right c.literal_lanes.result c.literal_lanes-in-loop-g.result
          gate (omega (arith, c.requires.well_formed.head_is.base_is)) room c.loop-g.invariant.5 c.read_gate-gate.ensures.left_is c.read_gate-gate.ensures.right_is left-fits right-fits
          c.literal_lanes.ensures c.literal_lanes-in-loop-g.ensures,
    )

pub returns : goal.returns
returns c =
    let e : c.loop-g.g ≡ gates c.args.circuit.now = omega (arith, c.requires, c.loop-g.invariant) in
    let all : Settled c.args.circuit.now c.loop-g.lanes (gates c.args.circuit.now) = subst (Settled c.args.circuit.now c.loop-g.lanes) e c.loop-g.invariant.5 in
    record {
      signals = λ hs N. settled_signals c.args.circuit.now c.requires.well_formed.legal c.args.t hs c.loop-g.lanes (omega (arith, signals_fit c.args.circuit.now c.requires.well_formed.headed, c.loop-g.invariant.1)) all c.args.head.base c.requires.well_formed.head_is.base_is (c.loop-g.invariant.4 hs N);
      ready = λ z. all;
    }
