-- `refute::power` meets its contract. The invariant: p is states^i.
-- Assumes nothing.
use mathlib.Core.Path.{◌≡◌, sym, ap, ◌∙◌}
use Prim.Native.Nat.{ℕ, suc, ◌*◌, ◌^◌, ◌≤◌}
use native.Mathlib.Nat.{pow-suc}
use Rattle.refute.proofs.power.Given as goal

-- one factor more
step : (k i p : ℕ) → p ≡ k ^ i → p * k ≡ k ^ suc i
step k i p e = ap (λ q. q * k) e ∙ sym (pow-suc k i)

abbrev pub invariant-loop-i : goal.invariant-loop-i
invariant-loop-i l =
    (l.i ≤ l.count) × (l.p ≡ l.states ^ l.i)
