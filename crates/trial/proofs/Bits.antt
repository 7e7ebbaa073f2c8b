-- Bits of masks. Assumes nothing.
use mathlib.Core.Path.{◌≡◌, refl, sym, ap, ap₂, ◌∙◌, subst}
use mathlib.Core.Bool.{Bool, true, false, not, ◌&&◌, ◌||◌}
use mathlib.Core.Logic.{◌⊎◌, inl, inr, ◌↔◌}
use Prim.Native.Nat.{ℕ, zero, suc, ◌-◌, ◌/◌, ◌%◌, ◌^◌, ◌<◌}
use native.Mathlib.Nat.{mod-lt, pow-zero, pow-suc}
use native.Mathlib.Omega.{arith}
use lib.Dec.{eqb, lit<}
use lib.Bits.{bit_and, bit_or, or_shr, or_mod}
use Rattle.circuit.specs.Lists.{bit}
use Rattle.circuit.proofs.Bits.{bit_zero, bit_suc, bit_and_lem, bit_not}

digit_or : (p q : ℕ) → p < 2 → q < 2 → eqb (bit_or p q) 1 ≡ (eqb p 1 || eqb q 1)
digit_or zero zero hp hq = refl
digit_or zero (suc zero) hp hq = refl
digit_or zero (suc (suc q)) hp hq = absurd (omega arith)
digit_or (suc zero) zero hp hq = refl
digit_or (suc zero) (suc zero) hp hq = refl
digit_or (suc zero) (suc (suc q)) hp hq = absurd (omega arith)
digit_or (suc (suc p)) q hp hq = absurd (omega arith)

pub bit_or_lem : (x y j : ℕ) → bit (bit_or x y) j ≡ (bit x j || bit y j)
unfolding bit
bit_or_lem x y j =
    ap (λ k. eqb (k % 2) 1) (or_shr x y j) ∙ ap (λ k. eqb k 1) (or_mod (x / 2 ^ j) (y / 2 ^ j) 1)
    ∙ digit_or (x / 2 ^ j % 2) (y / 2 ^ j % 2) (mod-lt (x / 2 ^ j) (lit< tt)) (mod-lt (y / 2 ^ j) (lit< tt))

-- ---- masks

pub and_both : (a b : Bool) → (a && b) ≡ true → (a ≡ true) × (b ≡ true)
and_both true b e = (refl, e)
and_both false b e = (e, absurd (subst (λ t. go t) e tt))
  where
    go : Bool → Type 0
    go false = Unit {0}
    go true = ⊥

pub or_one : (a b : Bool) → (a || b) ≡ true → (a ≡ true) ⊎ (b ≡ true)
or_one true b e = inl refl
or_one false b e = inr e

pub or_left : (a b : Bool) → a ≡ true → (a || b) ≡ true
or_left a b e = ap (λ a. a || b) e

pub or_right : (a b : Bool) → b ≡ true → (a || b) ≡ true
or_right true b e = refl
or_right false b e = e

not-true : (a : Bool) → not a ≡ true → a ≡ false
not-true false e = refl
not-true true e = sym e

-- which bits of the mask c are demanded 1 by the output o, and which 0
pub ones_mask : (o c i : ℕ) → (bit (bit_and o c) i ≡ true) ↔ ((bit c i ≡ true) × (bit o i ≡ true))
ones_mask o c i =
    ((λ e. let p = and_both (bit o i) (bit c i) (sym (bit_and_lem o c i) ∙ e) in (p.1, p.0)), λ p. bit_and_lem o c i ∙ ap₂ ◌&&◌ p.1 p.0)

pub zeros_mask : (o c i : ℕ) → i < 16 → o < 2 ^ 16 → (bit (bit_and (2 ^ 16 - 1 - o) c) i ≡ true) ↔ ((bit c i ≡ true) × (bit o i ≡ false))
zeros_mask o c i l s = (
  (λ e. let p = and_both (bit (2 ^ 16 - 1 - o) i) (bit c i) (sym (bit_and_lem (2 ^ 16 - 1 - o) c i) ∙ e) in (p.1, not-true (bit o i) (sym (bit_not o i 16 l s) ∙ p.0))),
  λ p. bit_and_lem (2 ^ 16 - 1 - o) c i ∙ ap₂ ◌&&◌ (bit_not o i 16 l s ∙ ap not p.1) p.0,
)

-- a number that is not 0 has a bit
pub some_bit : (m x : ℕ) → x < 2 ^ m → 0 < x → (i : ℕ) × (i < m) × (bit x i ≡ true)
some_bit zero x l p = absurd (let z : x < 1 = rw pow-zero at l in omega arith)
some_bit (suc m) x l p = go (λ k. some_bit m (x / 2) (omega (arith, pow-suc 2 m)) k) (x % 2) refl
  where
    go : (0 < x / 2 → (i : ℕ) × (i < m) × (bit (x / 2) i ≡ true)) → (d : ℕ) → x % 2 ≡ d → (i : ℕ) × (i < suc m) × (bit x i ≡ true)
    go ih zero e = let I = ih (omega arith) in (suc I.0, omega (arith, I.1), bit_suc x I.0 ∙ I.2)
    go ih (suc zero) e = (0, omega arith, bit_zero x ∙ ap (λ d. eqb d 1) e)
    go ih (suc (suc d)) e = absurd (omega arith)
