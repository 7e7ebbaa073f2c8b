-- `refute::power` meets its contract. The invariant: p is states^i.
-- Assumes nothing.
use mathlib.Core.Path.{◌≡◌, sym, ap, ◌∙◌}
use Prim.Native.Nat.{ℕ, suc, ◌*◌, ◌^◌}
use native.Mathlib.Nat.{pow-zero, pow-suc, one-le-pow}
use native.Mathlib.Numerals.{add-one}
use native.Mathlib.Omega.{arith}
use Rattle.refute.proofs.Numbers.{power_most}
use Rattle.refute.proofs.power.Goals as goal

-- one factor more
step : (k i p : ℕ) → p ≡ k ^ i → p * k ≡ k ^ suc i
step k i p e = ap (λ q. q * k) e ∙ sym (pow-suc k i)

pub loop-i-init : goal.loop-i-init
loop-i-init c =
    (omega arith, sym (pow-zero _))

pub overflow_mul-p : goal.overflow_mul-p
overflow_mul-p c =
    omega (arith, step c.args.states c.loop-i.i c.loop-i.p c.loop-i.invariant.1, power_most c.args.states (suc c.loop-i.i) (omega (arith, c.requires)) (omega (arith, c.requires)))

pub loop-i-preserved : goal.loop-i-preserved
loop-i-preserved c =
    (omega arith, rw (add-one c.loop-i.i) (step _ _ _ c.loop-i.invariant.1))

pub returns : goal.returns
returns c =
    let e : c.loop-i.i ≡ c.args.count = omega arith in
    let p : c.loop-i.p ≡ c.args.states ^ c.args.count = c.loop-i.invariant.1 ∙ ap (λ i. c.args.states ^ i) e in
    (p, omega (arith, p, one-le-pow c.args.count c.args.states (omega (arith, c.requires))), omega (arith, p, power_most c.args.states c.args.count (omega (arith, c.requires)) (omega (arith, c.requires))))
