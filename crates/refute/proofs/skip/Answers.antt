-- `refute::skip` meets its contract.
-- Assumes nothing.
use mathlib.Core.Path.{ap}
use Prim.Native.Nat.{ℕ, ◌+◌, ◌*◌, ◌/◌, ◌≤◌}
use native.Mathlib.Nat.{div-le_self, div-mul-le_self}
use native.Mathlib.Omega.{arith}
use Rattle.merged.specs.Demands.{skipped}
use Rattle.refute.proofs.skip.Goals as goal

-- the number after it is not far
near : (c s : ℕ) → (c / s + 1) * s ≤ c + s
near c s = omega (arith, div-mul-le_self c s)

pub overflow_add-result : goal.overflow_add-result
overflow_add-result c =
    omega (arith, c.requires, div-le_self c.args.c c.power-step.result)

pub overflow_mul-result : goal.overflow_mul-result
overflow_mul-result c =
    omega (arith, c.requires, c.power-step.ensures, near c.args.c c.power-step.result)

pub returns : goal.returns
unfolding skipped
returns c =
    ap (λ s. (c.args.c / s + 1) * s) c.power-step.ensures.0
