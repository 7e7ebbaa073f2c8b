-- Digits of a number, from the last. Assumes nothing.
use mathlib.Core.Path.{◌≡◌, sym, ap, ◌∙◌}
use mathlib.Core.Logic.{⊎_elim}
use mathlib.Core.List.{List}
use Prim.Native.Nat.{ℕ, suc, ◌-◌, ◌/◌, ◌%◌, ◌^◌, ◌≤◌, ◌<◌}
use native.Mathlib.Nat.{le_refl, le_trans, pow-suc, pow-le-pow_left, pow-le-pow_right, div-div-eq-div-mul, eq-or-lt_of_le}
use native.Mathlib.Omega.{arith}
use lib.ListN.{length, get_or, set}
use lib.Seq.{get_or-set_same, get_or-set_other}
use Rattle.merged.specs.Merged.{digit_of}

pub power_most : (k i : ℕ) → k ≤ 3 → i ≤ 12 → k ^ i ≤ 531441
power_most k i lk li = le_trans (pow-le-pow_left lk i) (le_trans (pow-le-pow_right {n = 3} (omega arith) li) (le_refl _))

-- one digit more, from the last
pub digit_next : (k L c : ℕ) (r : List ℕ) (i rest x : ℕ) → 0 < i → i ≤ L → i ≤ length r → rest ≡ c / k ^ (L - i) → x ≡ rest % k
    → ((e : ℕ) → i ≤ e → e < L → get_or r e 0 ≡ digit_of k L c e)
    → (e : ℕ) → i - 1 ≤ e → e < L → get_or (set r (i - 1) x) e 0 ≡ digit_of k L c e
unfolding digit_of
digit_next k L c r i rest x pos l m er ex D e a b = ⊎_elim at past (eq-or-lt_of_le a)
  where
    at : i - 1 ≡ e → get_or (set r (i - 1) x) e 0 ≡ c / k ^ (L - suc e) % k
    at q =
        let j : L - i ≡ L - suc e = omega arith in
        ap (λ e. get_or (set r (i - 1) x) e 0) (sym q) ∙ get_or-set_same r (i - 1) x 0 (omega arith) ∙ ex ∙ ap (λ y. y % k) (er ∙ ap (λ j. c / k ^ j) j)

    past : i - 1 < e → get_or (set r (i - 1) x) e 0 ≡ c / k ^ (L - suc e) % k
    past q = get_or-set_other r (i - 1) e x 0 (λ z. omega arith) ∙ D e (omega arith) b

pub rest_next : (k L c i rest : ℕ) → 0 < i → i ≤ L → rest ≡ c / k ^ (L - i) → rest / k ≡ c / k ^ (L - (i - 1))
rest_next k L c i rest pos l er =
    let j : suc (L - i) ≡ L - (i - 1) = omega arith in
    ap (λ y. y / k) er ∙ div-div-eq-div-mul c (k ^ (L - i)) k ∙ ap (λ d. c / d) (sym (pow-suc k (L - i)) ∙ ap (λ j. k ^ j) j)
