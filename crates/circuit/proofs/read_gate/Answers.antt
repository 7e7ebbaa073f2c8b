-- `circuit::read_gate` meets its contract.
-- Assumes nothing.
use mathlib.Core.Path.{refl, sym, ap, ◌∙◌}
use Rattle.circuit.specs.declared.Gate.{Gate}
use Rattle.circuit.proofs.Literals.{gate_marked, gate_connected}
use Rattle.circuit.proofs.read_gate.Goals as goal

pub returns-then-gate-eq-MARK : goal.returns-then-gate-eq-MARK
returns-then-gate-eq-MARK c =
    gate_marked c.args.circuit.now c.args.g _ c.requires.well_formed.legal c.requires.g_bound c.requires.well_formed.headed
    (sym (ap (λ (r : Gate). r.left) c.read_literals-gate.ensures) ∙ c.if-gate-eq-MARK.true) refl

pub returns : goal.returns
returns c =
    gate_connected c.args.circuit.now c.args.g _ c.requires.well_formed.legal c.requires.g_bound
    (λ q. c.if-gate-eq-MARK.false (ap (λ (r : Gate). r.left) c.read_literals-gate.ensures ∙ q)) c.read_literals-gate.ensures
