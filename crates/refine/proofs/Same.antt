-- Laws of rows: the test by numbers and rows is an equivalence, with a hash. Assumes nothing.
use mathlib.Core.Path.{◌≡◌, sym, ap, ap₂, ◌∙◌}
use mathlib.Core.List.{List}
use Prim.Native.Nat.{ℕ, zero, suc, ◌+◌, ◌*◌, ◌%◌, ◌≤◌, ◌<◌}
use native.Mathlib.Nat.{le_refl}
use native.Mathlib.Numerals.{add-one}
use native.Mathlib.Omega.{arith}
use lib.Dec.{T, eqb, eqb→eq}
use Rattle.layered.specs.Search.{every}
use Rattle.layered.proofs.Search.{both, eq-eqb, every_all, all_every}
use Rattle.refine.specs.Limits.{bucket_count, hash_factor}
use Rattle.refine.specs.Rows.{part_in, same_row}
use Rattle.refine.specs.Buckets.{hash_to, row_hash}
use Rattle.refine.specs.declared.Rows.{Rows}
use Rattle.refine.proofs.Buckets.{Hashed}

-- ---- hashes

hash_below : (number : ℕ) (part : ℕ → ℕ) (i : ℕ) → hash_to number part i < bucket_count
unfolding hash_to
hash_below number part zero = omega arith
hash_below number part (suc i) = omega arith

pub hash_small : (number : ℕ) (part : ℕ → ℕ) (i : ℕ) {h : ℕ} → h ≡ hash_to number part i → h < bucket_count
hash_small number part i e = omega (arith, e, hash_below number part i)

pub hash_more : (number : ℕ) (part : ℕ → ℕ) (i h : ℕ) → h ≡ hash_to number part i → (h * hash_factor + part i) % bucket_count ≡ hash_to number part (i + 1)
unfolding hash_to
hash_more number part i h q = rw (add-one i) (ap (λ h. (h * hash_factor + part i) % bucket_count) q)

-- ---- the test

module _ (before : ℕ → ℕ) (w : List ℕ) (rows : Rows) where
  -- the parts of the rows of d and c are the same
  abbrev pub Alike : (d c i : ℕ) → Type 0
  Alike d c i = part_in w rows d i ≡ part_in w rows c i

  pub row_parts : (d c : ℕ) → T (same_row before w rows d c) → (before d ≡ before c) × ((i : ℕ) → i < rows.parts → Alike d c i)
  unfolding same_row
  row_parts d c t =
      let b = (both (eqb (before d) (before c)) (every rows.parts (λ i. eqb (part_in w rows d i) (part_in w rows c i)))).0 t in
      (eqb→eq _ _ b.0, λ i l. eqb→eq _ _ (every_all (λ i. eqb (part_in w rows d i) (part_in w rows c i)) rows.parts b.1 i l))

  pub parts_row : (d c : ℕ) → before d ≡ before c → ((i : ℕ) → i < rows.parts → Alike d c i) → T (same_row before w rows d c)
  unfolding same_row
  parts_row d c e f =
      (both (eqb (before d) (before c)) (every rows.parts (λ i. eqb (part_in w rows d i) (part_in w rows c i)))).1
      (eq-eqb e, all_every (λ i. eqb (part_in w rows d i) (part_in w rows c i)) rows.parts (λ i l. eq-eqb (f i l)))

  hash_equal : (d c i : ℕ) → i ≤ rows.parts → T (same_row before w rows d c) → hash_to (before d) (part_in w rows d) i ≡ hash_to (before c) (part_in w rows c) i
  unfolding hash_to
  hash_equal d c zero l t = ap (λ x. x % bucket_count) (row_parts d c t).0
  hash_equal d c (suc i) l t = ap₂ (λ h x. (h * hash_factor + x) % bucket_count) (hash_equal d c i (omega arith) t) ((row_parts d c t).1 i l)

  pub same_back : (d c : ℕ) → T (same_row before w rows d c) → T (same_row before w rows c d)
  same_back d c t = let p = row_parts d c t in parts_row c d (sym p.0) (λ i l. sym (p.1 i l))

  pub same_on : (b d c : ℕ) → T (same_row before w rows b d) → T (same_row before w rows d c) → T (same_row before w rows b c)
  same_on b d c s t =
      let p = row_parts b d s in
      let q = row_parts d c t in
      parts_row b c (p.0 ∙ q.0) (λ i l. p.1 i l ∙ q.1 i l)

  pub row_hashed : Hashed (same_row before w rows) (row_hash before w rows)
  row_hashed = record {
    back = same_back;
    on = same_on;
    equal = λ d c. hash_equal d c rows.parts (le_refl _);
    small = λ c. hash_below (before c) (part_in w rows c) rows.parts;
  }
