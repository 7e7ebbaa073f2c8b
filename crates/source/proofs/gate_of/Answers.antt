-- `source::gate_of` meets its contract: a gate of the circuit, one of the network, renamed, or one that shows an output.
-- Assumes nothing.
use mathlib.Core.Path.{◌≡◌, subst}
use Prim.Native.Nat.{◌+◌, ◌-◌, ◌<◌}
use native.Mathlib.Omega.{arith}
use Rattle.circuit.specs.Circuit.{gates}
use Rattle.circuit.specs.WellFormed.{WellFormed, GateOf}
use Rattle.source.specs.Source.{sourced, Spreads}
use Rattle.source.proofs.Sources.{own_well, is_spread, renames, whole_gate, spread_gate, behind}
use Rattle.source.proofs.gate_of.Goals as goal

-- ---- a gate behind those of the network
pub shown_gate-requires : goal.shown_gate-requires
shown_gate-requires c =
    let own : WellFormed c.args.circuit.now c.args.source.own =
    own_well _ _ c.requires.0
    in
    let B = behind _ _ c.requires.0 c.args.g c.requires.1 (omega (arith, own, c.if-own-g.true)) in
    (B.0, B.1, omega (arith, B.2, own))

pub returns-then-own-g : goal.returns-then-own-g
returns-then-own-g c =
    let own : WellFormed c.args.circuit.now c.args.source.own =
    own_well _ _ c.requires.0
    in
    let e : gates c.args.circuit.now + (c.args.g - c.args.source.own.gates) ≡ c.args.g = omega (arith, own, c.if-own-g.true) in
    subst (λ g. GateOf (sourced c.args.source c.args.circuit.now) g c.shown_gate.result) e c.shown_gate.ensures

-- ---- one of its own
pub read_gate-gate-requires : goal.read_gate-gate-requires
read_gate-gate-requires c =
    let own : WellFormed c.args.circuit.now c.args.source.own =
    own_well _ _ c.requires.0
    in
    record {
      well_formed = own;
      g_bound = omega (arith, own, c.if-own-g.false);
    }

pub returns-then-source : goal.returns-then-source
returns-then-source c =
    whole_gate _ _ c.if-source.true c.args.g c.read_gate-gate.result c.read_gate-gate.ensures

pub rename-requires : goal.rename-requires
rename-requires c =
    let own : WellFormed c.args.circuit.now c.args.source.own =
    own_well _ _ c.requires.0
    in
    let in-network : c.args.g < gates c.args.circuit.now =
    omega (arith, own, c.if-own-g.false)
    in
    let network : Spreads c.args.circuit.now c.args.source =
    is_spread _ _ c.requires.0 c.if-source.false
    in
    renames _ _ (network) c.args.g _ (in-network) c.read_gate-gate.ensures.left_before (omega arith)

pub rename-requires-2 : goal.rename-requires-2
rename-requires-2 c =
    let own : WellFormed c.args.circuit.now c.args.source.own =
    own_well _ _ c.requires.0
    in
    let in-network : c.args.g < gates c.args.circuit.now =
    omega (arith, own, c.if-own-g.false)
    in
    let network : Spreads c.args.circuit.now c.args.source =
    is_spread _ _ c.requires.0 c.if-source.false
    in
    renames _ _ (network) c.args.g _ (in-network) c.read_gate-gate.ensures.right_before (omega arith)

pub returns : goal.returns
returns c =
    let own : WellFormed c.args.circuit.now c.args.source.own =
    own_well _ _ c.requires.0
    in
    let in-network : c.args.g < gates c.args.circuit.now =
    omega (arith, own, c.if-own-g.false)
    in
    let network : Spreads c.args.circuit.now c.args.source =
    is_spread _ _ c.requires.0 c.if-source.false
    in
    spread_gate _ _ c.if-source.false (network) c.args.g (in-network) _ c.read_gate-gate.result c.read_gate-gate.ensures c.rename.ensures c.rename-2.ensures
