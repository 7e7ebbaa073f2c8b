-- `build::build` meets its contract: how the loop over the signals begins, goes on and ends.
-- Assumes nothing.
use mathlib.Core.Path.{refl, ◌∙◌}
use Prim.Native.Nat.{◌+◌, ◌<◌}
use native.Mathlib.Omega.{arith}
use Rattle.circuit.specs.Circuit.{gates, all_inputs}
use Rattle.source.specs.Source.{sourced}
use Rattle.build.proofs.Loop.{count_is, begins, can, stops, goes_on, ends}
use Rattle.build.proofs.build.Goals as goal

pub loop-s-init : goal.loop-s-init
loop-s-init c =
    begins _ _ _ _ _ c.requires.1

pub make-requires : goal.make-requires
make-requires c =
    let less : c.loop-s.s < all_inputs (sourced c.args.source c.args.circuit.now) + gates (sourced c.args.source c.args.circuit.now) = omega (arith, count_is _ _ _ _ _ c.requires.1, c.loop-s-test.true) in
    can _ _ _ _ _ c.requires.1 _ _ _ c.loop-s.invariant less _ c.origin_of-origin.ensures

pub returns-in_default : goal.returns-in_default
returns-in_default c =
    let less : c.loop-s.s < all_inputs (sourced c.args.source c.args.circuit.now) + gates (sourced c.args.source c.args.circuit.now) = omega (arith, count_is _ _ _ _ _ c.requires.1, c.loop-s-test.true) in
    stops _ _ _ _ _ c.requires.1 _ _ _ c.loop-s.invariant less _ c.origin_of-origin.ensures _ _ _ (c.make.auto.nodes ∙ c.loop-s.auto.nodes) (c.make.auto.work ∙ c.loop-s.auto.work) c.in_default.ensures.is refl _ c.gate_number.ensures

pub loop-s-preserved : goal.loop-s-preserved
loop-s-preserved c =
    let less : c.loop-s.s < all_inputs (sourced c.args.source c.args.circuit.now) + gates (sourced c.args.source c.args.circuit.now) = omega (arith, count_is _ _ _ _ _ c.requires.1, c.loop-s-test.true) in
    rw c.set_id.ensures (goes_on _ _ _ _ _ c.requires.1 _ _ _ c.loop-s.invariant less _ c.origin_of-origin.ensures _ _ _ (c.make.auto.nodes ∙ c.loop-s.auto.nodes) (c.make.auto.work ∙ c.loop-s.auto.work) c.in-Some.ensures.is c.in-Some.ensures.real)

pub returns : goal.returns
returns c =
    ends _ _ _ _ _ c.requires.1 _ _ _ c.loop-s.invariant (omega (arith, count_is _ _ _ _ _ c.requires.1, c.loop-s-test.false))
