-- A number, if it is below another. Assumes nothing.
use mathlib.Core.Path.{◌≡◌, refl}
use mathlib.Core.Bool.{Bool, true, false, cond}
use Prim.Native.Nat.{ℕ, ◌≤◌, ◌<◌}
use lib.Dec.{ltb}
use borrow.Author.Tests.{lt-ltb, le-ltb, ltb-true, ltb-false}
use Rattle.std.specs.Prelude.{Some, None}
use Rattle.distinguish.specs.Distinguish.{below}

pub is_below : (n x : ℕ) → x < n → Some x ≡ below n x
is_below n x h = rw (lt-ltb x n h)

pub not_below : (n x : ℕ) → n ≤ x → None ≡ below n x
not_below n x h = rw (le-ltb x n h)

pub below_some : (n x y : ℕ) → Some y ≡ below n x → (y ≡ x) × (x < n)
below_some n x y e = go (ltb x n) refl e
  where
    go : (t : Bool) → ltb x n ≡ t → Some y ≡ cond t (Some x) None → (y ≡ x) × (x < n)
    go true l e = ((cc), ltb-true x n l)
    go false l e = absurd (cc)

pub below_none : (n x : ℕ) → None ≡ below n x → n ≤ x
below_none n x e = go (ltb x n) refl e
  where
    go : (t : Bool) → ltb x n ≡ t → (None ≡ cond t (Some x) None) → n ≤ x
    go true l e = absurd (cc)
    go false l e = ltb-false x n l
