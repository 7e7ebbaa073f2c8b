-- Buckets of candidates with equal hashes, in which an earlier one that is the same is sought. Only new candidates are in a bucket.
use Rattle.std.specs.Prelude.{◌≡◌, Bool, cond, ◌&&◌, List, ℕ, zero, suc, ◌+◌, ◌*◌, ◌%◌, ◌≤◌, ◌<◌, T, eqb, ltb, length, get_or}
use Rattle.diagrams.specs.Numbering.{is_new}
use Rattle.refine.specs.Limits.{bucket_count, hash_factor}
use Rattle.refine.specs.Rows.{number_in, part_in, same_row}
use Rattle.refine.specs.declared.Rows.{Rows}

-- one more than the last number below n of which p holds; 0 where there is none
unfoldable pub latest : ℕ → (ℕ → Bool) → ℕ
latest zero p = 0
latest (suc n) p = cond (p n) (suc n) (latest n p)

module _ (same : ℕ → ℕ → Bool) (hash : ℕ → ℕ) where
  -- whether c is in the bucket of the hash k
  unfoldable pub in_bucket : (k c : ℕ) → Bool
  in_bucket k c = is_new same c && eqb (hash c) k

  -- where the bucket of the hash k starts for the candidates below c: one more than its last candidate, or 0
  unfoldable pub bucket : (k c : ℕ) → ℕ
  bucket k c = latest c (in_bucket k)

  -- links holds for each candidate of a bucket, below c, where the bucket goes on
  pub record Linked (links : List ℕ) (c : ℕ) : Type 0 where
    pub room : c ≤ length links
    pub link : (g : ℕ) → g < c → T (is_new same g) → get_or links g 0 ≡ bucket (hash g) g

-- a hash of a number and the first i parts of a row. The modulus is prime, and the factor a primitive root of it, so that all bits count and
-- rows that differ by little are kept apart.
unfoldable pub hash_to : (number : ℕ) (part : ℕ → ℕ) (i : ℕ) → ℕ
hash_to number part zero = number % bucket_count
hash_to number part (suc i) = (hash_to number part i * hash_factor + part i) % bucket_count

-- the hash of the number so far and the row of c
abbrev pub row_hash : (before : ℕ → ℕ) → List ℕ → Rows → (c : ℕ) → ℕ
row_hash before w rows c = hash_to (before c) (part_in w rows c) rows.parts

-- the numbers so far, while c is numbered: those of the candidates up to c are in the copy, those of later ones in their place
unfoldable pub old_in : List ℕ → Rows → (c d : ℕ) → ℕ
old_in s rows c d = cond (ltb c d) (number_in s rows d) (get_or s (rows.copy + d) 0)

-- the test and the hash by these numbers
abbrev pub test_in : List ℕ → List ℕ → Rows → (c : ℕ) → ℕ → ℕ → Bool
test_in s w rows c = same_row (old_in s rows c) w rows

abbrev pub hash_in : List ℕ → List ℕ → Rows → (c : ℕ) → ℕ → ℕ
hash_in s w rows c = row_hash (old_in s rows c) w rows
