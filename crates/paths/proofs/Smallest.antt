-- Laws of the smallest number of which a test holds, and of tests that either of two passes. Assumes nothing.
use mathlib.Core.Path.{◌≡◌, refl, ap, ap₂, ◌∙◌, subst⁻¹}
use mathlib.Core.Bool.{Bool, true, false, cond, ◌&&◌, ◌||◌, or-true}
use mathlib.Core.Logic.{⊎_elim}
use Prim.Native.Nat.{ℕ, ◌+◌, ◌*◌, ◌/◌, ◌%◌, ◌≤◌, ◌<◌}
use native.Mathlib.Nat.{suc-mul, eq-or-lt_of_le, le_of_suc-le-suc, div-lt_iff_lt-mul, div-add-mod'}
use native.Mathlib.Omega.{arith}
use lib.Arith.{digits_lt, digits_div, digits_mod}
use lib.Dec.{T, ltb, eqb}
use borrow.Author.Tests.{eqb-true, eqb-false, ltb-true, ltb-false, eq-eqb, ne_eqb}
use Rattle.layered.specs.Search.{least, tally}
use Rattle.layered.proofs.Search.{least_tells, least_is, least_cong, least_below, tally_cong, tally_some, tally_zero}
use Rattle.paths.specs.Paths.{smallest_of}
use Rattle.paths.specs.Progress.{smaller}

pub smallest_none : (n : ℕ) (p : ℕ → Bool) → tally n p ≡ 0 → smallest_of n p ≡ 0
unfolding smallest_of
smallest_none n p e = rw (eq-eqb (tally n p) 0 e)

smallest_least : (n : ℕ) (p : ℕ → Bool) → 0 < tally n p → smallest_of n p ≡ least n p
unfolding smallest_of
smallest_least n p l = rw (ne_eqb (tally n p) 0 (λ e. omega arith))

-- it is below n, the test holds of it, and of none before it
pub smallest_tells : (n : ℕ) (p : ℕ → Bool) → 0 < tally n p → (smallest_of n p < n) × (p (smallest_of n p) ≡ true) × ((i : ℕ) → i < smallest_of n p → p i ≡ false)
smallest_tells n p l =
    let b = least_below n p l in
    let t = least_tells n p in
    rw (smallest_least n p l) (b, t.1 b, t.0)

pub smallest_is : (n a : ℕ) (p : ℕ → Bool) → a < n → p a ≡ true → ((i : ℕ) → i < a → p i ≡ false) → smallest_of n p ≡ a
smallest_is n a p l t f = smallest_least n p (tally_some n a p l (subst⁻¹ T t tt)) ∙ least_is n a p (omega arith) f (λ h. t)

pub smallest_cong : (n : ℕ) (p q : ℕ → Bool) → ((i : ℕ) → i < n → p i ≡ q i) → smallest_of n p ≡ smallest_of n q
unfolding smallest_of
smallest_cong n p q e = ap₂ (λ k l. cond (eqb k 0) 0 l) (tally_cong n e) (least_cong n p q e)

positive : (k : ℕ) → eqb k 0 ≡ false → 0 < k
positive k e = let n : ¬ (k ≡ 0) = eqb-false k 0 e in omega arith

-- it is below each bound on n, also where there is none
pub smallest_below : (n x : ℕ) (p : ℕ → Bool) → 0 < x → n ≤ x → smallest_of n p < x
unfolding smallest_of
smallest_below n x p z h = go (eqb (tally n p) 0) refl
  where
    go : (t : Bool) → eqb (tally n p) 0 ≡ t → cond t 0 (least n p) < x
    go true e = z
    go false e = omega (arith, least_below n p (positive (tally n p) e))

-- ---- of numbers with a last digit

pub smallest_digit : (n K w : ℕ) (p : ℕ → Bool) → w < K → 0 < tally n p → smallest_of (n * K) (λ h. p (h / K) && eqb w (h % K)) ≡ smallest_of n p * K + w
smallest_digit n K w p l s =
    let (b, t, f) = smallest_tells n p s in
    let a : ℕ = smallest_of n p in
    smallest_is (n * K) (a * K + w) (λ h. p (h / K) && eqb w (h % K)) (digits_lt b l)
    (ap₂ (λ g d. p g && eqb w d) (digits_div a l) (digits_mod a l) ∙ ap₂ ◌&&◌ t (eq-eqb w w refl))
    (λ i h. ⊎_elim (λ e. last i (omega (arith, ap (λ g. g * K) e, div-add-mod' i K))) (λ m. ap (λ r. r && eqb w (i % K)) (f (i / K) m)) (eq-or-lt_of_le (front i h)))
  where
    front : (i : ℕ) → i < smallest_of n p * K + w → i / K ≤ smallest_of n p
    front i h = le_of_suc-le-suc ((div-lt_iff_lt-mul (omega arith)).1 (omega (arith, suc-mul (smallest_of n p) K)))

    last : (i : ℕ) → i % K < w → (p (i / K) && eqb w (i % K)) ≡ false
    last i h = none (p (i / K)) (ne_eqb w (i % K) (λ e. omega arith))
      where
        none : (a : Bool) → eqb w (i % K) ≡ false → (a && eqb w (i % K)) ≡ false
        none true e = e
        none false e = refl

-- ---- of either of two tests

either_false : (x y : Bool) → x ≡ false → y ≡ false → (x || y) ≡ false
either_false x y e f = rw (e, f)

module _ (n : ℕ) (p q : ℕ → Bool) (some : 0 < tally n q) where
  -- the second's, where the first holds of none before it
  other : ((i : ℕ) → i < smallest_of n q → p i ≡ false) → smallest_of n (λ i. p i || q i) ≡ smallest_of n q
  other f =
      let (b, t, g) = smallest_tells n q some in
      smallest_is n (smallest_of n q) (λ i. p i || q i) b (ap (λ y. p (smallest_of n q) || y) t ∙ or-true (p (smallest_of n q))) (λ i h. either_false (p i) (q i) (f i h) (g i h))

  -- the first's, where that is no larger
  known : 0 < tally n p → smallest_of n p ≤ smallest_of n q → smallest_of n (λ i. p i || q i) ≡ smallest_of n p
  known l h =
      let (b, t, f) = smallest_tells n p l in
      smallest_is n (smallest_of n p) (λ i. p i || q i) b (ap (λ x. x || q (smallest_of n p)) t)
      (λ i k. either_false (p i) (q i) (f i k) ((smallest_tells n q some).2 i (omega arith)))

  pub smallest_either : smallest_of n (λ i. p i || q i) ≡ smaller (tally n p) (smallest_of n p) (smallest_of n q)
  unfolding smaller
  smallest_either = go (eqb (tally n p) 0) (ltb (smallest_of n q) (smallest_of n p)) refl refl
    where
      go : (z l : Bool) → eqb (tally n p) 0 ≡ z → ltb (smallest_of n q) (smallest_of n p) ≡ l
          → smallest_of n (λ i. p i || q i) ≡ cond (z || l) (smallest_of n q) (smallest_of n p)
      go true l e f = other (λ i h. tally_zero n p (eqb-true (tally n p) 0 e) i (omega (arith, (smallest_tells n q some).0)))
      go false true e f = other (λ i h. (smallest_tells n p (positive (tally n p) e)).2 i (omega (arith, ltb-true (smallest_of n q) (smallest_of n p) f)))
      go false false e f = known (positive (tally n p) e) (ltb-false (smallest_of n q) (smallest_of n p) f)

-- ---- of two numbers

pub smaller_below : (count known other x : ℕ) → known < x → other < x → smaller count known other < x
unfolding smaller
smaller_below count known other x k o = go (eqb count 0 || ltb other known)
  where
    go : (t : Bool) → cond t other known < x
    go true = o
    go false = k
