-- The first numbers of blocks. Assumes nothing.
use mathlib.Core.Path.{◌≡◌, sym, ap, ◌∙◌}
use Prim.Native.Nat.{ℕ, ◌+◌, ◌*◌, ◌-◌, ◌/◌, ◌%◌, ◌^◌, ◌≤◌, ◌<◌}
use native.Mathlib.Nat.{zero-mul, add-mul, zero-mod, mod-lt, div-add-mod', div-mul-le_self, div-eq_of_lt, mul-add-div_right}
use native.Mathlib.Omega.{arith}
use lib.Arith.{digits_div}
use lib.Pow.{pow_pos, pow_mono, split, shr-shr, mod-pow-add, mod-mod-pow}
use Rattle.circuit.specs.Lists.{block_start}
use Rattle.lanes.specs.Limits.{lane_bits, lane_count}

pub start_at_most : (bits x : ℕ) → block_start bits x ≤ x
unfolding block_start
start_at_most bits x = div-mul-le_self x (2 ^ bits)

-- `at` begins a block
pub start_after : (bits at x : ℕ) → at % 2 ^ bits ≡ 0 → block_start bits (at + x) ≡ at + block_start bits x
unfolding block_start
start_after bits at x e =
    let b = 2 ^ bits in
    let at_is : at ≡ at / b * b = omega (arith, split at bits) in
    ap (λ y. (y + x) / b * b) at_is ∙ ap (λ q. q * b) (mul-add-div_right (pow_pos bits) (at / b) x) ∙ add-mul (at / b) (x / b) b ∙ ap (λ y. y + x / b * b) (sym at_is)

-- a block of lane_count or more has the first lane_count numbers
pub start_zero : (bits x : ℕ) → lane_bits ≤ bits → x < lane_count → block_start bits x ≡ 0
unfolding block_start
start_zero bits x h l = ap (λ q. q * 2 ^ bits) (div-eq_of_lt (omega (arith, pow_mono {i = lane_bits} {j = bits} h))) ∙ zero-mul (2 ^ bits)

-- ---- a number that begins no block

-- the number before it is in its block
before_in : (q d : ℕ) → 0 < d → ¬ (q % d ≡ 0) → (q - 1) / d ≡ q / d
before_in q d p n =
    let e : q - 1 ≡ q / d * d + (q % d - 1) = omega (arith, div-add-mod' q d) in
    ap (λ y. y / d) e ∙ digits_div (q / d) (omega (arith, mod-lt q p))

module _ (bits at : ℕ) (n : ¬ (at % 2 ^ bits ≡ 0)) where
  pub not_zero : 0 < at
  not_zero = let z : ¬ (at ≡ 0) = λ z. n (ap (λ x. x % 2 ^ bits) z ∙ zero-mod (2 ^ bits)) in omega arith

  module _ (e : at % lane_count ≡ 0) where
    -- its block is larger than lane_count
    block_large : lane_bits < bits
    block_large =
        let s : ¬ (bits ≤ lane_bits) =
        λ h.
        let w : lane_bits - bits + bits ≡ lane_bits = omega arith in
        n (sym (mod-mod-pow at (lane_bits - bits) bits) ∙ ap (λ i. at % 2 ^ i % 2 ^ bits) w ∙ ap (λ x. x % 2 ^ bits) e ∙ zero-mod (2 ^ bits)) in
        omega arith

    -- the lane_count numbers before it are in the block of those from it on
    pub start_before : (x : ℕ) → x < lane_count → block_start bits (at - lane_count + x) ≡ block_start bits (at + x)
    unfolding block_start
    start_before x h =
        let k = bits - lane_bits in
        let w : lane_bits + k ≡ bits = omega (arith, block_large) in
        let w' : k + lane_bits ≡ bits = omega arith in
        let whole : at % 2 ^ bits ≡ at / lane_count % 2 ^ k * lane_count + at % lane_count = ap (λ i. at % 2 ^ i) (sym w') ∙ mod-pow-add at k lane_bits in
        let m : ¬ (at / lane_count % 2 ^ k ≡ 0) = λ z. n (omega (arith, whole)) in
        let quotient : (y : ℕ) → y / 2 ^ bits ≡ y / lane_count / 2 ^ k = λ y. ap (λ i. y / 2 ^ i) (sym w) ∙ sym (shr-shr y lane_bits k) in
        let i : (at - lane_count + x) / lane_count ≡ at / lane_count - 1 = omega (arith, not_zero) in
        let j : (at + x) / lane_count ≡ at / lane_count = omega arith in
        ap (λ q. q * 2 ^ bits)
        (quotient (at - lane_count + x) ∙ ap (λ q. q / 2 ^ k) i ∙ before_in (at / lane_count) (2 ^ k) (pow_pos k) m ∙ sym (quotient (at + x) ∙ ap (λ q. q / 2 ^ k) j))
