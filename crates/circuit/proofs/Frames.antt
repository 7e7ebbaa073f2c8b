-- Counting along the frames, and that the frame of an input or an output is the only one that it is of: `frame_of`. Assumes nothing.
use mathlib.Core.Path.{◌≡◌, sym, ap, ◌∙◌, subst}
use mathlib.Core.List.{List}
use Prim.Native.Nat.{ℕ, zero, suc, ◌+◌, ◌*◌, ◌-◌, ◌/◌, ◌≤◌, ◌<◌}
use native.Mathlib.Nat.{zero-mul, suc-mul, mul_comm, mod-lt, div-add-mod, div-eq_of_lt-le}
use native.Mathlib.Omega.{arith}
use Rattle.sizes.specs.Sizes.{inputs, frames}
use Rattle.circuit.specs.Circuit.{all_inputs, frame_of}
use Rattle.circuit.specs.Frames.{InputOf, OutputOf, OnlyInputOf, OnlyOutputOf, NotAfter}

-- ---- where frames begin and end, as the code has it

pub next_from : (t u m : ℕ) → u ≡ t + 1 → (u - 1) * m ≡ t * m
next_from t u m e = ap (λ k. k * m) (omega arith)

pub ends : (t m : ℕ) → 1 ≤ t → t * m ≡ (t - 1) * m + m
ends zero m h = absurd (omega arith)
ends (suc t) m h = omega (arith, suc-mul t m, next_from t (suc t) m (omega arith))

-- all inputs of a circuit
pub inputs_are : (b : List ℕ) (n T : ℕ) → n ≡ inputs b → T ≡ frames b → T * n ≡ all_inputs b
unfolding all_inputs
inputs_are b n T en eT = rw (en, eT) (mul_comm (frames b) (inputs b))

-- ---- counting along

pub not_after_first : (m q : ℕ) → NotAfter m 1 q
not_after_first m q = omega (arith, zero-mul m)

pub from_first : (m t q : ℕ) → OutputOf m t q → 1 ≤ t
from_first m zero q T = absurd (omega (arith, T, zero-mul m))
from_first m (suc t) q T = omega arith

-- the frame of an item is not after the next one
pub not_after_next : (m t q : ℕ) → OutputOf m t q → NotAfter m t (q + 1)
not_after_next m t q T = omega (arith, T, from_first m t q T)

-- ---- the only frame

pub frame_is : (m t q : ℕ) → OutputOf m t q → t ≡ frame_of m q
unfolding frame_of
frame_is m t q T =
    let h : 1 ≤ t = from_first m t q T in
    let e : q / m ≡ t - 1 = div-eq_of_lt-le m T.0 (subst (λ k. q < k * m) (omega arith) T.1) in
    omega arith

pub only_output : (m t q : ℕ) → OutputOf m t q → OnlyOutputOf m t q
only_output m t q T = (T, λ u U. frame_is m u q U ∙ sym (frame_is m t q T))

-- input signal s is item s - 1 of the inputs
pub only_input : (n t s : ℕ) → InputOf n t s → OnlyInputOf n t s
only_input n t s T = (T, λ u U. (only_output n t (s - 1) (omega (arith, T))).1 u (omega (arith, U)))

pub frame_output : (m q : ℕ) → 1 ≤ m → OutputOf m (frame_of m q) q
unfolding frame_of
frame_output m q h =
    let f : ℕ = q / m in
    omega (arith, next_from f (suc f) m (omega arith), suc-mul f m, div-add-mod q m, mul_comm m f, mod-lt q {m = m} h)
