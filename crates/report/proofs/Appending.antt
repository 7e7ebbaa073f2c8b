-- Laws of appending to a buffer. Assumes nothing.
use mathlib.Core.Path.{◌≡◌, refl, sym, ap, ◌∙◌}
use mathlib.Core.List.{List, [], ◌∷◌, ◌++◌}
use Rattle.std.proofs.Common.{append_assoc}
use Prim.Native.Nat.{ℕ, suc, ◌+◌, ◌/◌, ◌%◌, ◌≤◌, ◌<◌}
use native.Mathlib.Omega.{arith}
use lib.ListN.{length, take, drop, set, length-append}
use lib.Seq.{sets, sets-eq, length-sets, drop-drop}
use borrow.Rule.Slice.PartMut.{put_mid}
use Rattle.report.specs.Report.{decimal, Appended}
use Rattle.report.proofs.Decimal.{one_digit, more_digits, one_more}

-- the buffer keeps its length
pub append_length : {b xs c : List ℕ} {at i : ℕ} → Appended b at xs c i → length c ≡ length b
append_length {b} {xs} {at = at} p = ap length p.stored ∙ length-sets b at xs

-- at the front: the bytes, and then the rest as before
pub append_front : {b xs c : List ℕ} {i : ℕ} → Appended b 0 xs c i → c ≡ xs ++ drop i b
append_front {b} {xs} {i = i} p =
    let e : 0 + length xs ≡ i = omega (arith, p.ends) in
    p.stored ∙ sets-eq xs b 0 (omega (arith, p.within)) ∙ rw e

-- ---- one after another

sets_more : (b : List ℕ) (i j : ℕ) (xs ys : List ℕ) → j ≡ i + length xs → sets (sets b i xs) j ys ≡ sets b i (xs ++ ys)
sets_more b i j [] ys e = let q : j ≡ i = omega arith in rw q
sets_more b i j (x ∷ xs) ys e = sets_more (set b i x) (suc i) j xs ys (omega arith)

pub append_then : {b xs c : List ℕ} {at i : ℕ} {ys d : List ℕ} {j : ℕ} → Appended b at xs c i → Appended c i ys d j → Appended b at (xs ++ ys) d j
append_then {b} {xs} {c} {at} {i} {ys} p q = record {
  stored = q.stored ∙ ap (λ (l : List ℕ). sets l i ys) p.stored ∙ sets_more b at i xs ys p.ends;
  ends = rw length-append (omega (arith, p.ends, q.ends));
  within = omega (arith, q.within, append_length p);
}

-- ---- a text

pub append_nothing : (b : List ℕ) (at : ℕ) → at ≤ length b → Appended b at [] b at
append_nothing b at h = record { stored = refl; ends = omega arith; within = h }

pub append_byte : (b : List ℕ) (at x : ℕ) → at < length b → Appended b at (x ∷ []) (set b at x) (at + 1)
append_byte b at x h = record { stored = refl; ends = refl; within = omega arith }

pub append_text : (b : List ℕ) (at : ℕ) (s t : List ℕ) (k : ℕ) → at + length s ≤ length b → k ≡ length s → t ≡ s → Appended b at s (put_mid at k b t) (at + length s)
append_text b at s t k h e q = record {
  stored = rw (q, e) (ap (λ (r : List ℕ). take at b ++ (s ++ r)) (drop-drop (length s) at b) ∙ sym (append_assoc (take at b) s (drop (at + length s) b)) ∙ sym (sets-eq s b at h));
  ends = refl;
  within = h;
}

-- ---- the last digit of the number n, where its room is known

module _ (b : List ℕ) (at n : ℕ) (room : at + length (decimal n) ≤ length b) where
  pub append_only : (c : List ℕ) (i : ℕ) → n < 10 → c ≡ b → i ≡ at → Appended b at (decimal n) (set c i (48 + n % 10)) (i + 1)
  append_only c i h e q = rw (one_digit n h, e, q) (append_byte b at (48 + n % 10) (omega (arith, ap length (one_digit n h))))

  pub append_last : (c d : List ℕ) (i j : ℕ) → 10 ≤ n → Appended b at (decimal (n / 10)) d j → c ≡ d → i ≡ j
      → Appended b at (decimal n) (set c i (48 + n % 10)) (i + 1)
  append_last c d i j h p e q = rw (more_digits n h, e, q) (append_then p (append_byte d j (48 + n % 10) (omega (arith, one_more n h, p.ends, append_length p))))
