-- Laws of decimal numbers. Assumes nothing.
use mathlib.Core.Path.{◌≡◌, ap}
use mathlib.Core.List.{List, [], ◌∷◌, ◌++◌}
use Prim.Native.Nat.{ℕ, zero, suc, ◌+◌, ◌/◌, ◌%◌, ◌^◌, ◌≤◌, ◌<◌}
use native.Mathlib.Nat.{pow-suc, div-lt_iff_lt-mul}
use native.Mathlib.Omega.{arith}
use native.Mathlib.Decide.{dec_lt}
use lib.Dec.{lit<}
use lib.ListN.{length, length-append}
use borrow.Author.Tests.{lt-ltb, le-ltb}
use Rattle.report.specs.Report.{digits, decimal}

-- digits beyond those that a number has change nothing
enough : (j k n : ℕ) → n < j → n < k → digits j n ≡ digits k n
unfolding digits
enough zero k n p q = elim p [ ]
enough (suc j) zero n p q = elim q [ ]
enough (suc j) (suc k) n p q = at (dec_lt n 10) (λ l. enough j k (n / 10) (omega arith) (omega arith))
  where
    at : Dec (n < 10) → (10 ≤ n → digits j (n / 10) ≡ digits k (n / 10)) → digits (suc j) n ≡ digits (suc k) n
    at (yes l) f = rw (lt-ltb n 10 l)
    at (no l) f = rw (le-ltb n 10 (omega arith)) (ap (λ (d : List ℕ). d ++ ((48 + n % 10) ∷ [])) (f (omega arith)))

-- a digit is itself
pub one_digit : (n : ℕ) → n < 10 → decimal n ≡ (48 + n % 10) ∷ []
unfolding decimal digits
one_digit n h = rw (lt-ltb n 10 h)

-- a longer number is its tenth part, and then the last digit
pub more_digits : (n : ℕ) → 10 ≤ n → decimal n ≡ decimal (n / 10) ++ ((48 + n % 10) ∷ [])
unfolding decimal digits
more_digits n h = rw (le-ltb n 10 h) (ap (λ (d : List ℕ). d ++ ((48 + n % 10) ∷ [])) (enough n (suc (n / 10)) (n / 10) (omega arith) (omega arith)))

-- so it has one digit more
pub one_more : (n : ℕ) → 10 ≤ n → length (decimal n) ≡ length (decimal (n / 10)) + 1
one_more n h = rw (more_digits n h, length-append)

-- a number below 10^(k + 1) has at most k + 1 digits
pub digits_most : (k n : ℕ) → n < 10 ^ suc k → length (decimal n) ≤ suc k
digits_most zero n h = rw (one_digit n h) (omega arith)
digits_most (suc k) n h = at (dec_lt n 10) (digits_most k (n / 10))
  where
    at : Dec (n < 10) → (n / 10 < 10 ^ suc k → length (decimal (n / 10)) ≤ suc k) → length (decimal n) ≤ suc (suc k)
    at (yes l) f = rw (one_digit n l) (omega arith)
    at (no l) f =
        let q : n / 10 < 10 ^ suc k = (div-lt_iff_lt-mul (lit< tt)).1 (rw pow-suc at h) in
        omega (arith, one_more n (omega arith), f q)
