-- What accepted sizes and sequences tell. Assumes nothing.
use mathlib.Core.Path.{◌≡◌, refl, sym, ap, ◌∙◌}
use mathlib.Core.Bool.{Bool, true, false, not, ◌||◌}
use mathlib.Core.List.{List}
use Prim.Native.Nat.{ℕ, ◌*◌, ◌%◌, ◌^◌, ◌≤◌, zero-le}
use native.Mathlib.Nat.{one-mul}
use native.Mathlib.Omega.{arith}
use lib.ListN.{length, get_or}
use lib.Pow.{shl_exact}
use lib.Dec.{ltb, leb, eqb, lit<}
use borrow.Author.Tests.{ltb-false, le-ltb, leb-false, lt-leb, eq-eqb, eqb-true, not-false}
use Rattle.verdict.specs.Judgements.{answer}
use Rattle.verdict.specs.declared.Figures.{Figures}
use Rattle.verdict.proofs.Laws.{both_accept, passed, none_found, finds_none}
use Rattle.sizes.specs.Limits.{most_outputs, most_frames, most_bits}
use Rattle.sizes.specs.Sizes.{outside, sizes_checked, words_checked, sequence_checked}
use Rattle.sizes.specs.Sized.{Sized, Fed}

-- ---- limits

either_false : (s t : Bool) → (s || t) ≡ false → (s ≡ false) × (t ≡ false)
either_false true true e = (e, e)
either_false true false e = (e, refl)
either_false false true e = (refl, e)
either_false false false e = (refl, refl)

pub inside : (low high x : ℕ) → outside low high x ≡ false → (low ≤ x) × (x ≤ high)
unfolding outside
inside low high x e =
    let s = either_false (ltb x low) (ltb high x) e in
    (ltb-false x low s.0, ltb-false high x s.1)

-- `1 << n`, at 64 bits
pub power_is : (n : ℕ) → n ≤ most_bits → (1 * 2 ^ n) % 2 ^ 64 ≡ 2 ^ n
power_is n h = shl_exact {a = 1} 1 n 64 (lit< tt) (omega arith) ∙ one-mul (2 ^ n)

-- ---- acceptance

pub sized : (most n m T p : ℕ) → sizes_checked most n m T ≡ answer 0 p → Sized most n m T
unfolding sizes_checked
sized most n m T p e =
    let e₁ = passed (outside 1 most n) 2 _ _ p refl e in
    let e₂ = passed (outside 1 most_outputs m) 2 _ _ p refl e₁.1 in
    let e₃ = passed (outside 1 most_frames T) 2 _ _ p refl e₂.1 in
    let e₄ = passed (ltb most_bits (n * T)) 2 _ _ p refl e₃.1 in
    let i₁ = inside 1 most n e₁.0 in
    let i₂ = inside 1 most_outputs m e₂.0 in
    let i₃ = inside 1 most_frames T e₃.0 in
    record {
      inputs_from = i₁.0;
      inputs_to = i₁.1;
      outputs_from = i₂.0;
      outputs_to = i₂.1;
      frames_from = i₃.0;
      frames_to = i₃.1;
      bits_to = ltb-false most_bits (n * T) e₄.0;
    }

-- the words are T, each below 2^n, there is room for T, and T is the place
pub fed : (n T : ℕ) (words : List ℕ) (room p : ℕ) → sequence_checked n T words room ≡ answer 0 p → Fed n T words × (T ≤ room) × (p ≡ T)
unfolding sequence_checked words_checked
fed n T words room p e =
    let e₁ = passed (not (eqb (length words) T)) 12 (length words) _ p refl e in
    let l : length words ≡ T = eqb-true _ T (not-false _ e₁.0) in
    let e₂ = both_accept (words_checked n words) _ p e₁.1 in
    let e₃ = passed (ltb room T) 7 T _ p refl e₂.2 in
    let f = none_found (λ t. leb (2 ^ n) (get_or words t 0)) 9 _ (answer 0 0) e₂.0 0 (length words) refl e₂.1 in (
      record { as_many = l; below = λ t h. leb-false _ _ (f.0 t zero-le (omega arith)) },
      ltb-false room T e₃.0,
      sym (ap (λ (f : Figures). f.place) e₃.1),
    )

-- ---- what is within the limits passes

pub not_outside : (low high x : ℕ) → low ≤ x → x ≤ high → outside low high x ≡ false
unfolding outside
not_outside low high x l h = rw (le-ltb x low l, le-ltb high x h)

pub sizes_pass : (most n m T : ℕ) → Sized most n m T → sizes_checked most n m T ≡ answer 0 0
unfolding sizes_checked
sizes_pass most n m T Z =
    rw (not_outside 1 most n Z.inputs_from Z.inputs_to, not_outside 1 most_outputs m Z.outputs_from Z.outputs_to, not_outside 1 most_frames T Z.frames_from Z.frames_to, le-ltb most_bits (n * T) Z.bits_to)

pub sequence_passes : (n T : ℕ) (words : List ℕ) (room : ℕ) → Fed n T words → T ≤ room → sequence_checked n T words room ≡ answer 0 T
unfolding sequence_checked words_checked
sequence_passes n T words room F h =
    let none = finds_none (λ t. leb (2 ^ n) (get_or words t 0)) 9 (λ t. t) (answer 0 0) 0 (length words) (λ t lo hi. lt-leb _ _ (F.below t (omega (arith, F.as_many)))) in
    rw (eq-eqb _ _ F.as_many, none, le-ltb room T h)
