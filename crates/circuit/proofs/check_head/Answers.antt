-- `circuit::check_head` meets its contract: each return is a stage of the definition.
-- Assumes nothing.
use mathlib.Core.Path.{sym, ◌∙◌}
use native.Mathlib.Omega.{arith}
use Rattle.circuit.proofs.Accepted.{headed}
use Rattle.circuit.proofs.Stages.{head_short, head_sizes, product_small, head_long, head_gates, head_length_lem, head_whole}
use Rattle.circuit.proofs.check_head.Goals as goal

pub returns-then-length-lt-HEAD-clause-verdict : goal.returns-then-length-lt-HEAD-clause-verdict
returns-then-length-lt-HEAD-clause-verdict c =
    head_short _ _ _ c.if-length-lt-HEAD.true

pub returns-in_err-check-clause-verdict : goal.returns-in_err-check-clause-verdict
returns-in_err-check-clause-verdict c =
    head_sizes _ _ _ c.if-length-lt-HEAD.false c.read-sizes.result c.read-sizes.ensures _ _ c.from_residual.ensures.1 c.in_err-check.ensures

pub returns-then-long-sizes-clause-verdict : goal.returns-then-long-sizes-clause-verdict
returns-then-long-sizes-clause-verdict c =
    head_long _ _ _ c.if-length-lt-HEAD.false c.read-sizes.result c.read-sizes.ensures _ c.in_ok-check.ensures c.if-long-sizes.true

pub overflow_mul-sizes : goal.overflow_mul-sizes
overflow_mul-sizes c =
    omega (arith, product_small _ 0 _ c.if-length-lt-HEAD.false c.read-sizes.result c.read-sizes.ensures _ c.in_ok-check.ensures)

pub returns-then-is_outside-clause-verdict : goal.returns-then-is_outside-clause-verdict
returns-then-is_outside-clause-verdict c =
    head_gates _ _ _ c.if-length-lt-HEAD.false c.read-sizes.result c.read-sizes.ensures _ c.in_ok-check.ensures
    c.if-long-sizes.false c.read-gates.result c.read-gates.ensures.0 (sym c.is_outside.ensures ∙ c.if-is_outside.true)

pub returns-then-length-gates-clause-verdict : goal.returns-then-length-gates-clause-verdict
returns-then-length-gates-clause-verdict c =
    head_length_lem _ _ _ c.if-length-lt-HEAD.false c.read-sizes.result c.read-sizes.ensures _ c.in_ok-check.ensures
    c.if-long-sizes.false c.read-gates.result c.read-gates.ensures.0 (sym c.is_outside.ensures ∙ c.if-is_outside.false) c.if-length-gates.true

pub returns-clause-verdict : goal.returns-clause-verdict
returns-clause-verdict c =
    head_whole _ _ _ c.if-length-lt-HEAD.false c.read-sizes.result c.read-sizes.ensures _ c.in_ok-check.ensures
    c.if-long-sizes.false c.read-gates.result c.read-gates.ensures.0 (sym c.is_outside.ensures ∙ c.if-is_outside.false) c.if-length-gates.false

pub returns-clause-headed : goal.returns-clause-headed
returns-clause-headed c =
    (headed _ 0 _ _ c.requires (sym (head_whole _ _ _ c.if-length-lt-HEAD.false c.read-sizes.result c.read-sizes.ensures _ c.in_ok-check.ensures
    c.if-long-sizes.false c.read-gates.result c.read-gates.ensures.0 (sym c.is_outside.ensures ∙ c.if-is_outside.false) c.if-length-gates.false))).0
