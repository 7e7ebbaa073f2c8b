-- Laws of tests.
use mathlib.Core.Path.{◌≡◌, refl, sym}
use mathlib.Core.Bool.{Bool, true, false, cond}
use mathlib.Core.Logic.{◌⊎◌, inl, inr, ⊎_elim, ◌≢◌}
use Prim.Native.Nat.{ℕ, ◌+◌, ◌*◌, ◌/◌, ◌≤◌, ◌<◌}
use native.Mathlib.Omega.{arith}
use lib.Dec.{T, eqb, eqb→eq, ltb, ltb→lt, lt→ltb}
use native.Mathlib.Nat.{mul-le-mul, mul-le-mul_right}
use Rattle.diagrams.proofs.Laws.{cond_yes, cond_no}
use Rattle.nodes.specs.declared.Halves.{Halves}
use Rattle.nodes.specs.Nodes.{next_id}
use Rattle.layered.proofs.Search.{eq-eqb, below_or}

pub eqb_yes : (m n : ℕ) → m ≡ n → true ≡ eqb m n
eqb_yes m n e = go (eqb m n) (eq-eqb e)
  where
    go : (b : Bool) → T b → true ≡ b
    go true t = refl
    go false t = absurd t

pub eqb_no : (m n : ℕ) → m ≢ n → false ≡ eqb m n
eqb_no m n d = go (eqb m n) (λ t. d (eqb→eq m n t))
  where
    go : (b : Bool) → (T b → ⊥) → false ≡ b
    go true f = absurd (f tt)
    go false f = refl

-- halves are equal where their parts are
pub halves_equal : {p q r s u v x y : ℕ} {a b : Bool} → p ≡ q → r ≡ s → u ≡ v → x ≡ y
    → ◌≡◌ {A = Halves} (record { low = record { f = p; a = a; g = u; b = b }; high = record { f = r; a = a; g = x; b = b } }) (record { low = record { f = q; a = a; g = v; b = b }; high = record { f = s; a = a; g = y; b = b } })
halves_equal e f g h = cc

-- ---- which of two is the lower

pub next_is : (R i : ℕ) → ((i + 1 < R + 2) × (next_id R i ≡ i + 1)) ⊎ ((R + 2 ≤ i + 1) × (next_id R i ≡ 2))
next_is R i = ⊎_elim
    (λ h. inl (h, cond_yes (i + 1) 2 (ltb (i + 1) (R + 2)) (lt→ltb (i + 1) (R + 2) h)))
    (λ h. inr (h, cond_no (i + 1) 2 (ltb (i + 1) (R + 2)) (λ t. omega (arith, ltb→lt (i + 1) (R + 2) t))))
    (below_or (i + 1) (R + 2))

-- a number of 32 bits, scaled to R
pub scaled_below : (m R : ℕ) → m < 4294967296 → 0 < R → m * R / 4294967296 < R
scaled_below m R h p = let e : m * R ≤ 4294967295 * R = mul-le-mul_right R (omega arith) in omega arith

pub scaled_fits : (m R : ℕ) → m < 4294967296 → R < 4294967296 → m * R < 18446744073709551616
scaled_fits m R h l = let e : m * R ≤ 4294967295 * 4294967295 = mul-le-mul {n₁ = m} {m₁ = R} {n₂ = 4294967295} {m₂ = 4294967295} (omega arith) (omega arith) in omega arith

pub chosen_lt : (m n x y : ℕ) → m < n → x ≡ cond (ltb m n) x y
chosen_lt m n x y h = sym (cond_yes x y (ltb m n) (lt→ltb m n h))

pub chosen_le : (m n x y : ℕ) → n ≤ m → y ≡ cond (ltb m n) x y
chosen_le m n x y h = sym (cond_no x y (ltb m n) (λ t. omega (arith, ltb→lt m n t)))

pub scaled_small : (m R : ℕ) → m < 4294967296 → R < 4294967296 → m * R / 4294967296 < 4294967296
scaled_small m R h l = let e : m * R ≤ 4294967295 * R = mul-le-mul_right R (omega arith) in omega arith

pub scaled_more : (m R : ℕ) → m < 4294967296 → R + 2 < 4294967296 → m * R / 4294967296 + 2 < 4294967296
scaled_more m R h l = let e : m * R ≤ 4294967295 * R = mul-le-mul_right R (omega arith) in omega arith
