-- Bits of a part of a number. Assumes nothing.
use mathlib.Core.Path.{◌≡◌, sym, ap, ◌∙◌}
use mathlib.Core.Bool.{true, not}
use Prim.Native.Nat.{ℕ, ◌+◌, ◌-◌, ◌/◌, ◌%◌, ◌^◌, ◌<◌}
use native.Mathlib.Nat.{zero-add, div-one}
use native.Mathlib.Omega.{arith}
use lib.Dec.{eqb}
use lib.Pow.{pow_pos, shr-shr, field, mod-mod-pow}
use Rattle.circuit.specs.Lists.{bit}
use Rattle.circuit.proofs.Bits.{bit_none, bit_not}

-- ---- a part: n bits of x from bit a on

pub bit_part : (x a n i : ℕ) → i < n → bit (x / 2 ^ a % 2 ^ n) i ≡ bit x (a + i)
unfolding bit
bit_part x a n i h =
    let k = n - 1 - i in
    let e : n ≡ k + 1 + i = omega arith in
    ap (λ m. eqb (x / 2 ^ a % 2 ^ m / 2 ^ i % 2) 1) e ∙ ap (λ y. eqb (y % 2) 1) (field (x / 2 ^ a) (k + 1) i)
    ∙ ap (λ y. eqb y 1) (mod-mod-pow (x / 2 ^ a / 2 ^ i) k 1) ∙ ap (λ y. eqb (y % 2) 1) (shr-shr x a i)

-- the low bits of a number, and those above them
pub bit_low : (x n i : ℕ) → i < n → bit x i ≡ bit (x % 2 ^ n) i
bit_low x n i h = sym (ap (λ y. bit (y % 2 ^ n) i) (sym (div-one x)) ∙ bit_part x 0 n i h ∙ ap (bit x) (zero-add i))

pub bit_high : (x a i : ℕ) → bit x (a + i) ≡ bit (x / 2 ^ a) i
unfolding bit
bit_high x a i = ap (λ y. eqb (y % 2) 1) (sym (shr-shr x a i))

-- ---- w ones

pub bit_ones : (w j : ℕ) → j < w → bit (2 ^ w - 1) j ≡ true
bit_ones w j h = let e : 2 ^ w - 1 ≡ 2 ^ w - 1 - 0 = omega arith in ap (λ x. bit x j) e ∙ bit_not 0 j w h (pow_pos w) ∙ ap not (bit_none j)
