-- Bits of a number that is spread: a conjunction with a one at the start of each block, times a block of ones. Assumes nothing.
use mathlib.Core.Path.{◌≡◌, sym, ap, ◌∙◌}
use mathlib.Core.Bool.{not}
use Prim.Native.Nat.{ℕ, zero, suc, ◌+◌, ◌*◌, ◌-◌, ◌/◌, ◌%◌, ◌^◌, ◌≤◌, ◌<◌}
use native.Mathlib.Nat.{mod-lt, zero-mul, mul-suc, mul-zero, mul-le-mul_right, div-eq_of_lt, div-eq_of_eq-mul_left, add-div_left}
use native.Mathlib.Decide.{dec_lt}
use native.Mathlib.Omega.{arith}
use lib.Dec.{eqb}
use lib.Pow.{pow_pos, pow_mono, pow-add, split, high, low, mod-mod-pow, ones_split}
use lib.Bits.{bit_and, and_block, and_mask, and_le_r}
use Rattle.circuit.specs.Lists.{bit, block_start}
use Rattle.circuit.proofs.Bits.{bit_zero, bit_none, bit_not}
use Rattle.lanes.specs.Limits.{lane_bits, lane_count}
use Rattle.lanes.proofs.Bits.{bit_low, bit_high}

-- ---- a one at the start of each block

-- k blocks of b bits
starts : (b k : ℕ) → ℕ
starts b zero = 0
starts b (suc k) = starts b k * 2 ^ b + 1

-- one block more: p is 2 ^ b, and o a block of ones
ones_more : (s p o q : ℕ) → s * o ≡ q → (s * p + 1) * o ≡ q * p + o
ones_more s p o q e = omega (arith, ap (λ x. x * p) e)

starts_ones : (b k : ℕ) → starts b k * (2 ^ b - 1) ≡ 2 ^ (b * k) - 1
unfolding starts
starts_ones b zero = rw (mul-zero b, zero-mul (2 ^ b - 1))
starts_ones b (suc k) =
    ones_more (starts b k) (2 ^ b) (2 ^ b - 1) (2 ^ (b * k) - 1) (starts_ones b k)
    ∙ sym (ap (λ x. 2 ^ x - 1) (mul-suc b k) ∙ ones_split (b * k) b)

ones_pos : (b : ℕ) → 0 < b → 0 < 2 ^ b - 1
ones_pos b h = omega (arith, pow_mono {i = 1} {j = b} h)

-- all w bits, divided by a block of ones
starts_are : (b k w : ℕ) → 0 < b → b * k ≡ w → (2 ^ w - 1) / (2 ^ b - 1) ≡ starts b k
starts_are b k w h e = div-eq_of_eq-mul_left (ones_pos b h) (ap (λ x. 2 ^ x - 1) (sym e) ∙ sym (starts_ones b k))

-- the product is no more than all bits
product_fits : (b k w x : ℕ) → b * k ≡ w → bit_and x (starts b k) * (2 ^ b - 1) < 2 ^ w
product_fits b k w x e =
    omega (arith, mul-le-mul_right (2 ^ b - 1) (and_le_r x (starts b k)), starts_ones b k ∙ ap (λ i. 2 ^ i - 1) e, pow_pos w)

-- a digit times a block of ones is the digit at each place
digit_ones : (d b j : ℕ) → d < 2 → j < b → bit (d * (2 ^ b - 1)) j ≡ eqb d 1
digit_ones zero b j hd h = ap (λ x. bit x j) (zero-mul (2 ^ b - 1)) ∙ bit_none j
digit_ones (suc zero) b j hd h = ap (λ x. bit x j) (omega arith) ∙ bit_not 0 j b h (pow_pos b) ∙ ap not (bit_none j)
digit_ones (suc (suc d)) b j hd h = absurd (omega arith)

-- ---- the first block, and the blocks above it

module _ (b : ℕ) (some : 0 < b) where
  first_bit : (x : ℕ) → bit_and (x % 2 ^ b) 1 ≡ x % 2
  first_bit x =
      let e : b ≡ b - 1 + 1 = omega arith in
      and_mask (x % 2 ^ b) 1 ∙ ap (λ i. x % 2 ^ i % 2) e ∙ mod-mod-pow x (b - 1) 1

  and_starts : (x k : ℕ) → bit_and x (starts b (suc k)) ≡ bit_and (x / 2 ^ b) (starts b k) * 2 ^ b + x % 2
  unfolding starts
  and_starts x k =
      ap (λ y. bit_and y (starts b (suc k))) (sym (split x b))
      ∙ and_block b (x / 2 ^ b) (starts b k) (x % 2 ^ b) 1 (mod-lt x (pow_pos b)) (pow_mono {i = 1} {j = b} some)
      ∙ ap (λ y. bit_and (x / 2 ^ b) (starts b k) * 2 ^ b + y) (first_bit x)

  -- the product has no carries: the first block has the first bit at each place
  spread_parts : (x k : ℕ) → bit_and x (starts b (suc k)) * (2 ^ b - 1) ≡ bit_and (x / 2 ^ b) (starts b k) * (2 ^ b - 1) * 2 ^ b + x % 2 * (2 ^ b - 1)
  spread_parts x k = ap (λ y. y * (2 ^ b - 1)) (and_starts x k) ∙ apart (bit_and (x / 2 ^ b) (starts b k)) (2 ^ b) (x % 2) (2 ^ b - 1)
    where
      apart : (y p d o : ℕ) → (y * p + d) * o ≡ y * o * p + d * o
      apart y p d o = omega arith

  first_small : (x : ℕ) → x % 2 * (2 ^ b - 1) < 2 ^ b
  first_small x = omega (arith, mul-le-mul_right {m = x % 2} {n = 1} (2 ^ b - 1) (omega arith), pow_pos b)

  -- each bit is as the first of its block
  bit_spread : (k x j : ℕ) → j < b * k → bit (bit_and x (starts b k) * (2 ^ b - 1)) j ≡ bit x (j / b * b)
  bit_spread zero x j h = absurd (omega (arith, mul-zero b))
  bit_spread (suc k) x j h = go (dec_lt j b) (λ i l. bit_spread k (x / 2 ^ b) i l)
    where
      rest : ℕ
      rest = bit_and (x / 2 ^ b) (starts b k) * (2 ^ b - 1)

      go : Dec (j < b) → ((i : ℕ) → i < b * k → bit rest i ≡ bit (x / 2 ^ b) (i / b * b)) → bit (bit_and x (starts b (suc k)) * (2 ^ b - 1)) j ≡ bit x (j / b * b)
      go (yes l) ih =
          let e : bit_and x (starts b (suc k)) * (2 ^ b - 1) % 2 ^ b ≡ x % 2 * (2 ^ b - 1) = ap (λ y. y % 2 ^ b) (spread_parts x k) ∙ low rest b (first_small x) in
          bit_low _ b j l ∙ ap (λ y. bit y j) e ∙ digit_ones (x % 2) b j (omega arith) l ∙ sym (bit_zero x)
          ∙ ap (bit x) (sym (ap (λ q. q * b) (div-eq_of_lt l) ∙ zero-mul b))
      go (no l) ih =
          let i = j - b in
          let j-is : j ≡ b + i = omega arith in
          let e : bit_and x (starts b (suc k)) * (2 ^ b - 1) / 2 ^ b ≡ rest = ap (λ y. y / 2 ^ b) (spread_parts x k) ∙ high rest b (first_small x) in
          ap (bit _) j-is ∙ bit_high _ b i ∙ ap (λ y. bit y i) e ∙ ih i (omega (arith, mul-suc b k)) ∙ sym (bit_high x b (i / b * b))
          ∙ ap (bit x) (sym (ap (λ y. y / b * b) j-is ∙ ap (λ q. q * b) (add-div_left i some) ∙ omega arith))

-- ---- blocks of 2 ^ bits lanes

-- all w bits, shifted until b of them are left
ones_left : (b w : ℕ) → b ≤ w → (2 ^ w - 1) / 2 ^ (w - b) ≡ 2 ^ b - 1
ones_left b w h =
    let e : w ≡ b + (w - b) = omega arith in
    ap (λ i. (2 ^ i - 1) / 2 ^ (w - b)) e ∙ ap (λ x. x / 2 ^ (w - b)) (ones_split b (w - b)) ∙ high (2 ^ b - 1) (w - b) (omega (arith, pow_pos (w - b)))

-- p ones, as the code has them
abbrev pub ones : (p : ℕ) → ℕ
ones p = (2 ^ lane_count - 1) / 2 ^ (lane_count - p)

module _ {bits p : ℕ} (few : bits ≤ lane_bits) (ep : p ≡ 2 ^ bits) where
  pub block_small : p ≤ lane_count
  block_small = rw ep (pow_mono {i = bits} {j = lane_bits} few)

  pub block_some : 0 < p
  block_some = rw ep (pow_pos bits)

  ones_are : ones p ≡ 2 ^ p - 1
  ones_are = ones_left p lane_count block_small

  pub some_ones : 0 < ones p
  some_ones = rw ones_are (ones_pos p block_some)

  -- how many blocks there are
  blocks_are : p * 2 ^ (lane_bits - bits) ≡ lane_count
  blocks_are =
      let e : bits + (lane_bits - bits) ≡ lane_bits = omega arith in
      ap (λ x. x * 2 ^ (lane_bits - bits)) ep ∙ sym (pow-add 2 bits (lane_bits - bits)) ∙ ap (λ i. 2 ^ i) e

  -- the product in the code
  product_is : (x : ℕ) → bit_and x ((2 ^ lane_count - 1) / ones p) * ones p ≡ bit_and x (starts p (2 ^ (lane_bits - bits))) * (2 ^ p - 1)
  product_is x =
      ap (λ y. bit_and x ((2 ^ lane_count - 1) / y) * y) ones_are
      ∙ ap (λ y. bit_and x y * (2 ^ p - 1)) (starts_are p (2 ^ (lane_bits - bits)) lane_count block_some blocks_are)

  pub spread_fits : (x : ℕ) → bit_and x ((2 ^ lane_count - 1) / ones p) * ones p < 2 ^ lane_count
  spread_fits x = rw (product_is x) (product_fits p (2 ^ (lane_bits - bits)) lane_count x blocks_are)

  pub spread_bits : (x j : ℕ) → j < lane_count → bit (bit_and x ((2 ^ lane_count - 1) / ones p) * ones p) j ≡ bit x (block_start bits j)
  unfolding block_start
  spread_bits x j h =
      ap (λ y. bit y j) (product_is x) ∙ bit_spread p block_some (2 ^ (lane_bits - bits)) x j (omega (arith, blocks_are)) ∙ ap (λ y. bit x (j / y * y)) ep
