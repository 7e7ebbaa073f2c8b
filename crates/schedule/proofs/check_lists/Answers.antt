-- `schedule::check_lists` meets its contract: each return is an outcome of the definition.
-- Assumes nothing.
use mathlib.Core.Path.{◌≡◌}
use mathlib.Core.List.{List}
use Prim.Native.Nat.{ℕ, ◌-◌}
use native.Mathlib.Nat.{mul-le-mul}
use native.Mathlib.Omega.{arith}
use lib.ListN.{length}
use Rattle.circuit.specs.Circuit.{all_inputs, all_outputs}
use Rattle.circuit.specs.WellFormed.{HeadOf}
use Rattle.circuit.specs.declared.Head.{Head}
use Rattle.circuit.proofs.Found.{is_found}
use Rattle.schedule.proofs.Lists.{inputs_wrong, outputs_wrong, input_outside, output_outside, input_taken, output_taken, none_taken}
use Rattle.schedule.proofs.check_lists.Goals as goal

-- as many places as the network has inputs and outputs
inputs-many : (c : List ℕ) (own : Head) → HeadOf c own → (ins : List ℕ) → length ins ≡ own.base - 1 → length ins ≡ all_inputs c
inputs-many c own O ins e = omega (arith, O.base_is)

outputs-many : (c : List ℕ) (own : Head) → HeadOf c own → (outs : List ℕ) → length outs ≡ own.total → length outs ≡ all_outputs c
outputs-many c own O outs e = omega (arith, O.total_is)

pub returns-then-count-own : goal.returns-then-count-own
returns-then-count-own c =
    inputs_wrong _ _ _ _ _ _ (λ e. c.if-count-own.true (omega (arith, c.read-own.ensures.base_is, e)))

pub returns-then-shown-own : goal.returns-then-shown-own
returns-then-shown-own c =
    outputs_wrong _ _ _ _ _ _ (inputs-many _ _ c.read-own.ensures _ c.if-count-own.false)
    (λ o. c.if-shown-own.true (omega (arith, c.read-own.ensures.total_is, o)))

pub overflow_mul-sizes-2 : goal.overflow_mul-sizes-2
overflow_mul-sizes-2 c =
    omega (arith, mul-le-mul c.requires.sized.outputs_to c.requires.sized.frames_to)

pub returns-in-Some : goal.returns-in-Some
returns-in-Some c = input_outside _ _ _ _ _ _ (inputs-many _ _ c.read-own.ensures _ c.if-count-own.false) (outputs-many _ _ c.read-own.ensures _ c.if-shown-own.false) _ c.in-Some.ensures

pub overflow_add-result : goal.overflow_add-result
overflow_add-result c =
    omega (arith, c.requires.circuit_headed, c.read-own.ensures, is_found _ _ _ c.in-Some-first_outside.ensures)

pub returns-in-Some-first_outside : goal.returns-in-Some-first_outside
returns-in-Some-first_outside c = output_outside _ _ _ _ _ _ (inputs-many _ _ c.read-own.ensures _ c.if-count-own.false) (outputs-many _ _ c.read-own.ensures _ c.if-shown-own.false) c.in_default.ensures _ c.in-Some-first_outside.ensures

pub returns-in-Some-first_repeated : goal.returns-in-Some-first_repeated
returns-in-Some-first_repeated c = input_taken _ _ _ _ _ _ (inputs-many _ _ c.read-own.ensures _ c.if-count-own.false) (outputs-many _ _ c.read-own.ensures _ c.if-shown-own.false) c.in_default.ensures c.in_default-first_outside.ensures _ c.in-Some-first_repeated.ensures

pub overflow_add-result-in-Some-first_repeated-2 : goal.overflow_add-result-in-Some-first_repeated-2
overflow_add-result-in-Some-first_repeated-2 c =
    omega (arith, c.requires.circuit_headed, c.read-own.ensures, is_found _ _ _ c.in-Some-first_repeated-2.ensures)

pub returns-in-Some-first_repeated-2 : goal.returns-in-Some-first_repeated-2
returns-in-Some-first_repeated-2 c =
    output_taken _ _ _ _ _ _ (inputs-many _ _ c.read-own.ensures _ c.if-count-own.false) (outputs-many _ _ c.read-own.ensures _ c.if-shown-own.false) c.in_default.ensures c.in_default-first_outside.ensures c.in_default-first_repeated.ensures _ c.in-Some-first_repeated-2.ensures

pub returns : goal.returns
returns c =
    none_taken _ _ _ _ _ _ (inputs-many _ _ c.read-own.ensures _ c.if-count-own.false) (outputs-many _ _ c.read-own.ensures _ c.if-shown-own.false) c.in_default.ensures c.in_default-first_outside.ensures c.in_default-first_repeated.ensures c.in_default-first_repeated-2.ensures
