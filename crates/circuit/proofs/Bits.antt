-- Bits of a word, from the lowest, and the word of its bits. Assumes nothing.
use mathlib.Core.Path.{◌≡◌, refl, sym, ap, ◌∙◌}
use mathlib.Core.Bool.{Bool, true, false, not, ◌&&◌, and-false, cond}
use mathlib.Core.List.{List, [], ◌∷◌}
use Prim.Native.Nat.{ℕ, zero, suc, ◌+◌, ◌*◌, ◌-◌, ◌/◌, ◌%◌, ◌^◌, ◌<◌}
use native.Mathlib.Nat.{lt_of_le_of_lt, pow-zero, pow-suc, mul_comm, add-mul, div-one, div-div-eq-div-mul, mod-lt}
use native.Mathlib.Decide.{ℕ_discrete}
use native.Mathlib.Omega.{arith}
use lib.Dec.{eqb, lit<}
use lib.Bits.{bit_and, and_le_r, and_shr, and_mod}
use lib.Pow.{pow_pos, split, high, ones_split, shr_lt}
use lib.ListN.{length, get_or}
use borrow.Author.Tests.{eqb-true, eqb-false}
use Rattle.circuit.specs.Lists.{bit, packed}

pub bit_zero : (w : ℕ) → bit w 0 ≡ eqb (w % 2) 1
unfolding bit
bit_zero w = ap (λ k. eqb (w / k % 2) 1) (pow-zero 2) ∙ ap (λ k. eqb (k % 2) 1) (div-one w)

pub bit_suc : (w j : ℕ) → bit w (suc j) ≡ bit (w / 2) j
unfolding bit
bit_suc w j = ap (λ k. eqb (k % 2) 1) (ap (λ k. w / k) (pow-suc 2 j ∙ mul_comm (2 ^ j) 2) ∙ sym (div-div-eq-div-mul w 2 (2 ^ j)))

-- the lowest bit as a digit
pub digit : (w : ℕ) → cond (eqb (w % 2) 1) 1 0 ≡ w % 2
digit w = go (eqb (w % 2) 1) refl
  where
    go : (t : Bool) → eqb (w % 2) 1 ≡ t → cond t 1 0 ≡ w % 2
    go true e = sym (eqb-true (w % 2) 1 e)
    go false e = let n : w % 2 ≡ 1 → ⊥ = eqb-false (w % 2) 1 e in omega (arith, n)

-- ---- the word of a list of bits

pub bit_none : (j : ℕ) → bit 0 j ≡ false
bit_none zero = bit_zero 0
bit_none (suc j) = bit_suc 0 j ∙ bit_none j

-- a digit below the others
lowest : (v : Bool) (x : ℕ) → eqb ((cond v 1 0 + 2 * x) % 2) 1 ≡ v
lowest true x = let e : (1 + 2 * x) % 2 ≡ 1 = omega arith in ap (λ k. eqb k 1) e
lowest false x = let e : (0 + 2 * x) % 2 ≡ 0 = omega arith in ap (λ k. eqb k 1) e

above : (v : Bool) (x : ℕ) → (cond v 1 0 + 2 * x) / 2 ≡ x
above true x = omega arith
above false x = omega arith

pub bit_packed : (l : List Bool) (j : ℕ) → bit (packed l) j ≡ get_or l j false
unfolding packed
bit_packed [] j = bit_none j
bit_packed (v ∷ l) zero = bit_zero _ ∙ lowest v (packed l)
bit_packed (v ∷ l) (suc j) = bit_suc _ j ∙ ap (λ x. bit x j) (above v (packed l)) ∙ bit_packed l j

-- a word below 2^m is what its m bits pack to
pub packed_bits : (m w : ℕ) (vs : List Bool) → w < 2 ^ m → length vs ≡ m → ((j : ℕ) → j < m → get_or vs j false ≡ bit w j) → packed vs ≡ w
unfolding packed
packed_bits zero w [] h l e = let z : w < 1 = rw (pow-zero 2) at h in omega arith
packed_bits zero w (v ∷ vs) h l e = absurd (omega arith)
packed_bits (suc m) w [] h l e = absurd (omega arith)
packed_bits (suc m) w (v ∷ vs) h l e =
    let h' : w < 2 ^ m * 2 = rw (pow-suc 2 m) at h in
    let d : cond v 1 0 ≡ w % 2 = ap (λ v. cond v 1 0) (e 0 (omega arith) ∙ bit_zero w) ∙ digit w in
    omega (arith, d, packed_bits m (w / 2) vs (omega arith) (omega arith) (λ j q. e (suc j) (omega arith) ∙ bit_suc w j))

-- numbers of n bits that differ do so in a bit
pub bits_apart : (n w u : ℕ) → w < 2 ^ n → u < 2 ^ n → ¬ (w ≡ u) → (j : ℕ) × (j < n) × ¬ (bit w j ≡ bit u j)
bits_apart zero w u hw hu d = absurd (d (omega (arith, pow-zero 2)))
bits_apart (suc n) w u hw hu d = go (ℕ_discrete (w % 2) (u % 2)) (bits_apart n (w / 2) (u / 2) (omega (arith, pow-suc 2 n)) (omega (arith, pow-suc 2 n)))
  where
    go : Dec (w % 2 ≡ u % 2) → (¬ (w / 2 ≡ u / 2) → (j : ℕ) × (j < n) × ¬ (bit (w / 2) j ≡ bit (u / 2) j)) → (j : ℕ) × (j < suc n) × ¬ (bit w j ≡ bit u j)
    go (yes e) ih =
        let r = ih (λ q. d (omega arith)) in
        (suc r.0, omega (arith, r.1), λ q. r.2 (sym (bit_suc w r.0) ∙ q ∙ bit_suc u r.0))
    go (no e) ih = (0, omega arith, λ q. e (sym (digit w) ∙ ap (λ y. cond y 1 0) (sym (bit_zero w) ∙ q ∙ bit_zero u) ∙ digit u))

pub equal_bits : (n w u : ℕ) → w < 2 ^ n → u < 2 ^ n → ((j : ℕ) → j < n → bit w j ≡ bit u j) → w ≡ u
equal_bits n w u hw hu e = go (ℕ_discrete w u)
  where
    go : Dec (w ≡ u) → w ≡ u
    go (yes q) = q
    go (no d) = let r = bits_apart n w u hw hu d in absurd (r.2 (e r.0 r.1))

-- ---- a conjunction

digit_and : (p q : ℕ) → p < 2 → q < 2 → eqb (bit_and p q) 1 ≡ (eqb p 1 && eqb q 1)
digit_and zero q hp hq = refl
digit_and (suc zero) zero hp hq = refl
digit_and (suc zero) (suc zero) hp hq = refl
digit_and (suc zero) (suc (suc q)) hp hq = absurd (omega arith)
digit_and (suc (suc p)) q hp hq = absurd (omega arith)

pub bit_and_lem : (x y j : ℕ) → bit (bit_and x y) j ≡ (bit x j && bit y j)
unfolding bit
bit_and_lem x y j =
    ap (λ k. eqb (k % 2) 1) (and_shr x y j) ∙ ap (λ k. eqb k 1) (and_mod (x / 2 ^ j) (y / 2 ^ j) 1)
    ∙ digit_and (x / 2 ^ j % 2) (y / 2 ^ j % 2) (mod-lt (x / 2 ^ j) (lit< tt)) (mod-lt (y / 2 ^ j) (lit< tt))

-- numbers that agree in the bits of a mask are equal once masked
pub masked_equal : (m mask x y : ℕ) → mask < 2 ^ m → ((j : ℕ) → j < m → bit mask j ≡ true → bit x j ≡ bit y j) → bit_and x mask ≡ bit_and y mask
masked_equal m mask x y h e =
    equal_bits m _ _ (lt_of_le_of_lt (and_le_r x mask) h) (lt_of_le_of_lt (and_le_r y mask) h) (λ j l. bit_and_lem x mask j ∙ at j l (bit mask j) refl ∙ sym (bit_and_lem y mask j))
  where
    at : (j : ℕ) → j < m → (u : Bool) → bit mask j ≡ u → (bit x j && bit mask j) ≡ (bit y j && bit mask j)
    at j l true q = ap (λ v. v && bit mask j) (e j l q)
    at j l false q = ap (λ v. bit x j && v) q ∙ and-false (bit x j) ∙ sym (and-false (bit y j)) ∙ sym (ap (λ v. bit y j && v) q)

-- ---- a complement

digit_not : (p q : ℕ) → p + q ≡ 1 → eqb p 1 ≡ not (eqb q 1)
digit_not zero zero e = absurd (omega arith)
digit_not zero (suc zero) e = refl
digit_not zero (suc (suc q)) e = absurd (omega arith)
digit_not (suc zero) zero e = refl
digit_not (suc zero) (suc q) e = absurd (omega arith)
digit_not (suc (suc p)) q e = absurd (omega arith)

-- of w bits, above bit j of which there are k
complement_shr : (x j k w : ℕ) → w ≡ suc k + j → x < 2 ^ w → (2 ^ w - 1 - x) / 2 ^ j ≡ 2 ^ suc k - 1 - x / 2 ^ j
complement_shr x j k w ew h =
    let P = 2 ^ j in
    let A = 2 ^ suc k - 1 in
    let q = x / 2 ^ j in
    let ones : 2 ^ w - 1 ≡ A * P + (P - 1) = ap (λ i. 2 ^ i - 1) ew ∙ ones_split (suc k) j in
    let below : q < 2 ^ suc k = shr_lt (suc k) j (rw ew at h) in
    let e : A ≡ (A - q) + q = omega arith in
    let parts : A * P ≡ (A - q) * P + q * P = ap (λ i. i * P) e ∙ add-mul (A - q) q P in
    let apart : 2 ^ w - 1 - x ≡ (A - q) * P + (P - 1 - x % P) = omega (arith, split x j, mod-lt x (pow_pos j)) in
    ap (λ i. i / P) apart ∙ high (A - q) j (omega (arith, pow_pos j))

pub bit_not : (x j w : ℕ) → j < w → x < 2 ^ w → bit (2 ^ w - 1 - x) j ≡ not (bit x j)
unfolding bit
bit_not x j w hj h =
    let k = w - 1 - j in
    let q = x / 2 ^ j in
    let ew : w ≡ suc k + j = omega arith in
    let below : q < 2 ^ suc k = shr_lt (suc k) j (rw ew at h) in
    ap (λ i. eqb (i % 2) 1) (complement_shr x j k w ew h)
    ∙ digit_not ((2 ^ suc k - 1 - q) % 2) (q % 2) (omega (arith, pow-suc 2 k))
