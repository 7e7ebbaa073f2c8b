-- `circuit::is_unconnected` meets its contract.
-- Assumes nothing.
use mathlib.Core.Path.{◌≡◌, sym, ap, ◌∙◌}
use mathlib.Core.Bool.{◌&&◌}
use native.Mathlib.Omega.{arith}
use borrow.Author.Tests.{eq-eqb, ne_eqb}
use lib.Dec.{eqb}
use Rattle.circuit.specs.Limits.{mark}
use Rattle.circuit.specs.Circuit.{unconnected}
use Rattle.circuit.proofs.Literals.{output_gate_lem}
use Rattle.circuit.proofs.is_unconnected.Goals as goal

pub returns-then-gate-eq-MARK : goal.returns-then-gate-eq-MARK
returns-then-gate-eq-MARK c =
    let flag : (eqb c.read_literals-gate.result.left mark && eqb c.read_literals-gate.result.right mark) ≡ unconnected c.args.circuit.now c.args.g =
    output_gate_lem c.args.circuit.now c.args.g _ (omega (arith, c.requires.circuit_bound.0)) c.read_literals-gate.ensures
    in
    ap (λ x. x && eqb c.read_literals-gate.result.right mark) (sym (eq-eqb _ _ c.if-gate-eq-MARK.true)) ∙ flag

pub returns-else-gate-eq-MARK : goal.returns-else-gate-eq-MARK
returns-else-gate-eq-MARK c =
    let flag : (eqb c.read_literals-gate.result.left mark && eqb c.read_literals-gate.result.right mark) ≡ unconnected c.args.circuit.now c.args.g =
    output_gate_lem c.args.circuit.now c.args.g _ (omega (arith, c.requires.circuit_bound.0)) c.read_literals-gate.ensures
    in
    let e = ne_eqb _ _ c.if-gate-eq-MARK.false in
    e ∙ ap (λ x. x && eqb c.read_literals-gate.result.right mark) (sym e) ∙ flag
