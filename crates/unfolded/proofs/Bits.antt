-- Words as bits, and tests of all numbers below a bound.
use mathlib.Core.Path.{◌≡◌, refl, sym, ap, ap₂, ◌∙◌}
use mathlib.Core.Bool.{Bool, true, false, not, ◌&&◌, and-true, and-false, beq}
use mathlib.Core.Logic.{⊎_elim}
use Prim.Native.Nat.{ℕ, zero, suc, ◌^◌, ◌<◌}
use native.Mathlib.Nat.{le_of_suc-le-suc, eq-or-lt_of_le, le_refl, le-suc, le_trans}
use native.Mathlib.Omega.{arith}
use lib.Bits.{bit_and}
use lib.Dec.{eqb}
use borrow.Author.Tests.{eqb-true, eqb-false, not-false}
use Rattle.circuit.specs.Lists.{bit}
use Rattle.circuit.proofs.Bits.{equal_bits, bit_and_lem}
use Rattle.circuit.proofs.Ahead.{beq_same, same_beq}
use Rattle.layered.specs.Search.{every}
use Rattle.layered.proofs.Search.{every_true, every_each}
use Rattle.table.specs.Table.{strays}

-- ---- truth values

pub not-not : (a : Bool) → not (not a) ≡ a
not-not true = refl
not-not false = refl

-- ---- every

module _ (p : ℕ → Bool) where
  -- where the test holds of all others, that of i decides
  pub every_one : (n i : ℕ) → i < n → ((j : ℕ) → j < n → (j ≡ i → ⊥) → p j ≡ true) → every n p ≡ p i
  unfolding every
  every_one zero i h o = absurd (omega arith)
  every_one (suc n) i h o =
      ⊎_elim
      (λ (q : i ≡ n). rw (q, every_true p n (λ j l. o j (le_trans l (le-suc n)) (λ k. absurd (omega arith)))))
      (λ (l : i < n). ap₂ ◌&&◌ (every_one n i l (λ j k d. o j (le_trans k (le-suc n)) d)) (o n (le_refl (suc n)) (λ k. absurd (omega arith))) ∙ and-true (p i))
      (eq-or-lt_of_le (le_of_suc-le-suc h))

-- ---- bits

-- a word without stray bits has no bit that c has not
pub no_stray : (c x j : ℕ) → strays c x ≡ false → bit c j ≡ false → bit x j ≡ false
unfolding strays
no_stray c x j e n = ap (λ y. bit y j) (sym (eqb-true (bit_and x c) x (not-false _ e))) ∙ bit_and_lem x c j ∙ ap (λ a. bit x j && a) n ∙ and-false (bit x j)

-- words below 2^n with the same n bits are the same
pub same_bits : (n w x : ℕ) → w < 2 ^ n → x < 2 ^ n → every n (λ i. beq (bit w i) (bit x i)) ≡ eqb x w
same_bits n w x h k = go (eqb x w) refl
  where
    go : (t : Bool) → eqb x w ≡ t → every n (λ i. beq (bit w i) (bit x i)) ≡ t
    go true e = every_true _ n (λ i l. same_beq _ _ (ap (λ y. bit y i) (sym (eqb-true x w e))))
    go false e = no_way (every n (λ i. beq (bit w i) (bit x i))) refl
      where
        no_way : (t : Bool) → every n (λ i. beq (bit w i) (bit x i)) ≡ t → t ≡ false
        no_way false q = refl
        no_way true q = absurd (eqb-false x w e (sym (equal_bits n w x h k (λ j l. beq_same _ _ (every_each _ n q j l)))))
