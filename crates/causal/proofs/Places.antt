-- The bits of a sequence's number that are the inputs of a source, case by case. Assumes nothing.
use mathlib.Core.Path.{◌≡◌, ap, ap₂}
use mathlib.Core.Bool.{true, false}
use mathlib.Core.List.{List}
use Prim.Native.Nat.{ℕ, suc, ◌+◌, ◌*◌, ◌-◌, ◌/◌, ◌%◌, ◌≤◌, ◌<◌}
use native.Mathlib.Nat.{mul_comm, mul-suc, mul-le-mul_right, div-lt_iff_lt-mul, div-add-mod', mod-lt}
use native.Mathlib.Omega.{arith}
use lib.ListN.{get_or}
use borrow.Author.Tests.{lt-ltb, le-ltb}
use Rattle.circuit.specs.Circuit.{frame_of}
use Rattle.source.specs.declared.Source.{Source}
use Rattle.causal.specs.Played.{place_bit, own_bit}

-- ---- a place's frame and its bit

module _ (n T p f : ℕ) (h : 1 ≤ n) (l : p < n * T) (e : f ≡ frame_of n p) where
  frame_is : f ≡ suc (p / n)
  unfolding frame_of
  frame_is = e

  pub frame_to : f ≤ T
  frame_to = let q : p / n < T = (div-lt_iff_lt-mul h).1 (omega (arith, mul_comm n T)) in omega (arith, frame_is)

  before : (f - 1) * n ≡ p / n * n
  before = let q : f - 1 ≡ p / n = omega (arith, frame_is) in ap (λ k. k * n) q

  pub frame_start : (f - 1) * n ≤ p
  frame_start = omega (arith, before, div-add-mod' p n)

  pub later_most : (T - f) * n + n ≤ n * T
  later_most =
      let q : suc (T - f) ≤ T = omega (arith, frame_to, frame_is) in
      omega (arith, mul_comm n T, mul-le-mul_right n q, mul-suc n (T - f), mul_comm n (T - f), mul_comm n (suc (T - f)))

  pub in_frame : p - (f - 1) * n < n
  in_frame = omega (arith, before, div-add-mod' p n, mod-lt p h)

  pub place-bit : (T - f) * n + (p - (f - 1) * n) ≡ place_bit n T p
  unfolding place_bit
  place-bit =
      let q : p - (f - 1) * n ≡ p % n = omega (arith, before, div-add-mod' p n) in
      ap₂ ◌+◌ (ap (λ k. (T - k) * n) frame_is) q

-- ---- the bit of an input

module _ (s : Source) (i : ℕ) where
  pub own_whole : s.whole ≡ true → i ≡ own_bit s i
  unfolding own_bit
  own_whole e = rw e

  module _ (e : s.whole ≡ false) where
    pub own_none : s.own.base ≤ i + 1 → 0 ≡ own_bit s i
    unfolding own_bit
    own_none h = rw (e, le-ltb (i + 1) s.own.base h)

    pub own_place : i + 1 < s.own.base → own_bit s i ≡ place_bit s.inputs s.frames (get_or s.places i 0)
    unfolding own_bit
    own_place h = rw (e, lt-ltb (i + 1) s.own.base h)
