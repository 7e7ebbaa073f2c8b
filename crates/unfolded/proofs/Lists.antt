-- Lists of literals below a bound.
use mathlib.Core.List.{List, [], ◌∷◌, ◌++◌}
use Prim.Native.Nat.{ℕ, zero, suc, ◌≤◌, ◌<◌}
use native.Mathlib.Nat.{le-suc, le_trans, le_refl}
use native.Mathlib.Omega.{arith}
use lib.ListN.{length, get_or}
use Rattle.circuit.specs.Lists.{grown, listed}

pub data Under (x : ℕ) : List ℕ → Type 0 where
  none : Under x []
  more : {l : ℕ} {ls : List ℕ} → l < x → Under x ls → Under x (l ∷ ls)

pub under_more : {x : ℕ} {ls ks : List ℕ} → Under x ls → Under x ks → Under x (ls ++ ks)
under_more none W = W
under_more (more l U) W = more l (under_more U W)

pub under_widen : {x y : ℕ} {ls : List ℕ} → x ≤ y → Under x ls → Under y ls
under_widen h none = none
under_widen h (more l U) = more (le_trans l h) (under_widen h U)

pub under_listed : (x : ℕ) (f : ℕ → ℕ) (k : ℕ) → ((i : ℕ) → i < k → f i < x) → Under x (listed [] f k)
unfolding grown
under_listed x f zero h = none
under_listed x f (suc k) h = under_more (under_listed x f k (λ i l. h i (le_trans l (le-suc k)))) (more (h k (le_refl (suc k))) none)

pub under_at : {x : ℕ} (ls : List ℕ) → Under x ls → (i : ℕ) → i < length ls → get_or ls i 0 < x
under_at [] none i h = absurd (omega arith)
under_at (l ∷ ls) (more q U) zero h = q
under_at (l ∷ ls) (more q U) (suc i) h = under_at ls U i (omega arith)
