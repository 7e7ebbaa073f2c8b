-- What a search answers, and what its answer tells. Assumes nothing.
use mathlib.Core.Path.{◌≡◌, refl, sym}
use mathlib.Core.Bool.{Bool, true, false, not, cond}
use mathlib.Core.List.{List, [], ◌∷◌}
use Prim.Native.Nat.{ℕ, suc, ◌+◌, ◌≤◌, ◌<◌}
use native.Mathlib.Omega.{arith}
use lib.Dec.{ltb}
use lib.ListN.{length, get_or}
use borrow.Author.Tests.{lt-ltb, le-ltb, ltb-true, ltb-false}
use Rattle.std.specs.Prelude.{Some, None}
use Rattle.std.specs.Bool.{then_some}
use Rattle.std.specs.List.{position, position_or_len}
use Rattle.layered.specs.Search.{least}
use Rattle.circuit.specs.Found.{found}

module _ (n k : ℕ) where
  pub found_here : k < n → Some k ≡ found n k
  unfolding found
  found_here h = simp (lt-ltb k n h)

  pub found_nowhere : n ≤ k → None ≡ found n k
  unfolding found
  found_nowhere h = simp (le-ltb k n h)

  pub is_found : (i : ℕ) → Some i ≡ found n k → (i ≡ k) × (k < n)
  unfolding found
  is_found i e = go (ltb k n) refl e
    where
      go : (t : Bool) → ltb k n ≡ t → Some i ≡ cond t (Some k) None → (i ≡ k) × (k < n)
      go true l q = (cc, ltb-true k n l)
      go false l q = absurd (cc)

  pub none_is : None ≡ found n k → n ≤ k
  unfolding found
  none_is e = go (ltb k n) refl e
    where
      go : (t : Bool) → ltb k n ≡ t → None ≡ cond t (Some k) None → n ≤ k
      go true l q = absurd (cc)
      go false l q = ltb-false k n l

-- what `then_some` gives under the test
pub then_some_found : (n k : ℕ) → then_some (ltb k n) k ≡ found n k
unfolding found
then_some_found n k = go (ltb k n)
  where
    go : (t : Bool) → then_some t k ≡ cond t (Some k) None
    go true = refl
    go false = refl

-- where `position` finds an element, as the least index at which the test holds
position_least : {X : Type 0} (test : X → Bool) (d : X) (xs : List X) → position_or_len test xs ≡ least (length xs) (λ k. test (get_or xs k d))
unfolding least
position_least test d [] = refl
position_least test d (x ∷ xs) = rw (position_least test d xs) (go (test x) _)
  where
    go : (t : Bool) (n : ℕ) → cond (not t) (1 + n) 0 ≡ cond t 0 (suc n)
    go true n = refl
    go false n = omega arith

pub position_found : {X : Type 0} (test : X → Bool) (d : X) (xs : List X) → position test xs ≡ found (length xs) (least (length xs) (λ k. test (get_or xs k d)))
unfolding found
position_found test d xs = rw (position_least test d xs)
