-- A word whose bits another has too is no larger.
use mathlib.Core.Path.{◌≡◌, sym, ap, ◌∙◌}
use mathlib.Core.Bool.{true}
use Prim.Native.Nat.{ℕ, zero, suc, ◌/◌, ◌%◌, ◌^◌, ◌≤◌, ◌<◌}
use native.Mathlib.Nat.{pow-zero, pow-suc}
use native.Mathlib.Omega.{arith}
use lib.Dec.{eqb}
use borrow.Author.Tests.{eqb-true}
use Rattle.circuit.specs.Lists.{bit}
use Rattle.circuit.proofs.Bits.{bit_zero, bit_suc}

pub bits_le : (m x y : ℕ) → x < 2 ^ m → ((i : ℕ) → i < m → bit x i ≡ true → bit y i ≡ true) → x ≤ y
bits_le zero x y l s = let z : x < 1 = rw pow-zero at l in omega arith
bits_le (suc m) x y l s =
    let half : x / 2 < 2 ^ m = omega (arith, pow-suc 2 m) in
    let high : x / 2 ≤ y / 2 = bits_le m (x / 2) (y / 2) half (λ i k b. sym (bit_suc y i) ∙ s (suc i) (omega arith) (bit_suc x i ∙ b)) in
    let low : ¬ (y % 2 < x % 2) = λ k.
    let one : x % 2 ≡ 1 = omega arith in
    let set : eqb (y % 2) 1 ≡ true = sym (bit_zero y) ∙ s 0 (omega arith) (bit_zero x ∙ ap (λ d. eqb d 1) one) in
    omega (arith, eqb-true (y % 2) 1 set) in
    omega arith
