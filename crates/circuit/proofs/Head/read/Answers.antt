-- `circuit::Head::read` meets its contract.
-- Assumes nothing.
use mathlib.Core.Path.{ap}
use Prim.Native.Nat.{ℕ, ◌+◌}
use native.Mathlib.Omega.{arith}
use Rattle.sizes.specs.declared.Sizes.{Sizes}
use Rattle.circuit.specs.Circuit.{gates}
use Rattle.circuit.proofs.Stages.{inputs_product, outputs_product}
use Rattle.circuit.proofs.Head.read.Goals as goal

pub overflow_mul-result : goal.overflow_mul-result
overflow_mul-result c =
    omega (arith, inputs_product c.read-sizes.result c.args.circuit.now c.read-sizes.ensures, c.requires)

pub overflow_add-result : goal.overflow_add-result
overflow_add-result c =
    omega (arith, inputs_product c.read-sizes.result c.args.circuit.now c.read-sizes.ensures, c.requires)

pub overflow_mul-result-2 : goal.overflow_mul-result-2
overflow_mul-result-2 c =
    omega (arith, outputs_product c.read-sizes.result c.args.circuit.now c.read-sizes.ensures, c.requires)

pub returns : goal.returns
unfolding gates
returns c =
    record {
      inputs_is = ap (λ (s : Sizes). s.inputs) c.read-sizes.ensures;
      outputs_is = ap (λ (s : Sizes). s.outputs) c.read-sizes.ensures;
      frames_is = ap (λ (s : Sizes). s.frames) c.read-sizes.ensures;
      gates_is = c.read-gates.ensures.0;
      base_is = ap (λ (n : ℕ). 1 + n) (inputs_product c.read-sizes.result c.args.circuit.now c.read-sizes.ensures);
      total_is = outputs_product c.read-sizes.result c.args.circuit.now c.read-sizes.ensures;
    }
