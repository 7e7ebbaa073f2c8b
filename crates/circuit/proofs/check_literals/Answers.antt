-- `circuit::check_literals` meets its contract: the two parts are judged one after the other.
-- Assumes nothing.
use mathlib.Core.Path.{sym, ◌∙◌}
use native.Mathlib.Omega.{arith}
use Rattle.verdict.proofs.Laws.{stop, go_on}
use Rattle.layered.proofs.Search.{least_tells}
use Rattle.circuit.specs.Circuit.{gates, unconnected}
use Rattle.circuit.proofs.Literals.{first_inside, literals_parts}
use Rattle.circuit.proofs.check_literals.Goals as goal

pub check_first-requires-clause-count_bound : goal.check_first-requires-clause-count_bound
check_first-requires-clause-count_bound c = (
  omega (arith, first_inside c.args.circuit.now c.requires.circuit_headed.outputs_to, c.requires.first_value),
  λ g h. (least_tells (gates c.args.circuit.now) (unconnected c.args.circuit.now)).0 g (omega (arith, c.requires.first_value)),
)

pub returns-in_err-check_first : goal.returns-in_err-check_first
returns-in_err-check_first c =
    stop _ _ _ _ c.from_residual.ensures.1 c.in_err-check_first.ensures
    ∙ sym (literals_parts c.args.circuit.now c.requires.circuit_headed.outputs_to c.args.start c.args.first c.requires.first_value)

pub check_rest-requires-clause-circuit_bound : goal.check_rest-requires-clause-circuit_bound
check_rest-requires-clause-circuit_bound c =
    let i = first_inside c.args.circuit.now c.requires.circuit_headed.outputs_to in
    (omega (arith, i, c.requires.first_value), omega (arith, i, c.requires.first_value))

pub returns : goal.returns
returns c =
    go_on _ _ _ _ c.in_ok-check_first.ensures c.check_rest.ensures
    ∙ sym (literals_parts c.args.circuit.now c.requires.circuit_headed.outputs_to c.args.start c.args.first c.requires.first_value)
