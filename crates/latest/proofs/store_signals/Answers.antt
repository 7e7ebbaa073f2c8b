-- `latest::store_signals` meets its contract. The invariant: the latest frames of the signals before gate g are stored.
-- Assumes nothing.
use mathlib.Core.Path.{refl, ap, ◌∙◌}
use Prim.Native.Nat.{ℕ, ◌+◌, ◌/◌, ◌<◌}
use native.Mathlib.Omega.{arith}
use lib.ListN.{length, take, set, length-set}
use Rattle.circuit.specs.Lists.{grown}
use Rattle.circuit.specs.Circuit.{gates}
use Rattle.circuit.specs.WellFormed.{WellFormed}
use Rattle.circuit.proofs.Laws.{signals_all}
use Rattle.source.proofs.Sources.{own_well}
use Rattle.latest.specs.Latest.{later_frame, own_frames}
use Rattle.latest.proofs.Laws.{latest_none, latest_more}
use Rattle.latest.proofs.store_signals.Goals as goal

pub store_own_inputs-requires : goal.store_own_inputs-requires
store_own_inputs-requires c =
    record {
      by_index = (c.args.circuit.now, c.requires.source_of);
      most_signals_in_bounds = c.requires.most_signals_in_bounds;
    }

pub loop-g-init : goal.loop-g-init
loop-g-init c =
    (omega arith, omega (arith, c.store_own_inputs.auto.latest, c.requires.most_signals_in_bounds), refl, latest_none c.args.circuit.now c.store_own_inputs.new.latest c.args.source.own.base)

pub loop-g-preserved : goal.loop-g-preserved
loop-g-preserved c =
    let known : WellFormed c.args.circuit.now c.args.source.own =
    own_well _ _ c.requires.source_of
    in
    let gate : c.loop-g.g < gates c.args.circuit.now =
    omega (arith, c, known)
    in
    let left_in : c.read_gate-gate.result.left / 2 < c.args.source.own.base + c.loop-g.g =
    omega (arith, c.read_gate-gate.ensures.left_before, known)
    in
    let right_in : c.read_gate-gate.result.right / 2 < c.args.source.own.base + c.loop-g.g =
    omega (arith, c.read_gate-gate.ensures.right_before, known)
    in
    let n = c.args.source.own.base + c.loop-g.g in
    let room : n < length c.loop-g.latest = omega (arith, gate, known, c.loop-g.invariant.1) in (
      omega (arith, gate, known),
      simp length-set c.loop-g.invariant.1,
      length-set c.loop-g.latest n c.max.result ∙ c.loop-g.invariant.2,
      ap (λ (x : ℕ). take (c.args.source.own.base + (c.loop-g.g + 1)) (set c.loop-g.latest n x)) c.max.ensures
          ∙ latest_more _ c.args.circuit.now c.loop-g.latest c.loop-g.g n c.read_gate-gate.result.left c.read_gate-gate.result.right room c.loop-g.invariant.3
          c.read_gate-gate.ensures.left_is c.read_gate-gate.ensures.right_is left_in right_in (c.args.source.own.base + (c.loop-g.g + 1)) (omega arith),
    )

pub returns : goal.returns
unfolding own_frames
returns c =
    let known : WellFormed c.args.circuit.now c.args.source.own =
    own_well _ _ c.requires.source_of
    in
    signals_all (own_frames c.args.source c.args.circuit.now) c.args.circuit.now c.loop-g.latest c.args.source.own.base c.loop-g.g
    known.head_is.base_is (omega (arith, known, c.loop-g.invariant)) (c.loop-g.invariant.3 ∙ ap (λ fs. grown fs (later_frame c.args.circuit.now) c.loop-g.g) c.store_own_inputs.ensures)
