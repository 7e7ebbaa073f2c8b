-- Candidates by their numbers, and a search through them in order.
use Rattle.std.specs.Prelude.{◌≡◌, List, ℕ, ◌^◌, ◌≤◌, ◌<◌, length, get_or, Option, None, Some, Result, Ok, Err}
use Rattle.merged.specs.Merged.{Target, digit_of}
use Rattle.merged.specs.Demands.{Contradicted, Ones}
use Rattle.refute.specs.declared.Refuted.{Refuted}
use Rattle.refute.specs.declared.Found.{Found}

-- r has the next states of the candidate c
abbrev pub Digits : (k L c : ℕ) (r : List ℕ) → Type 0
Digits k L c r = (e : ℕ) → e < L → get_or r e 0 ≡ digit_of k L c e

-- where r is a bound, the next states of so many entries are contradicted, and there are no more
pub record Refuses (B : Target) (next : ℕ → ℕ) (L : ℕ) (r : Option ℕ) : Type 0 where
  pub by : (used : ℕ) → r ≡ Some used → (used ≤ L) × Contradicted B next used

-- the same of a refuted prefix, and of the place of a pair, of which there are 64
abbrev pub Recalled : (B : Target) (next : ℕ → ℕ) (L : ℕ) (r : Option Refuted) → Type 0
Recalled B next L r = (p : Refuted) → r ≡ Some p → (p.used ≤ L) × Contradicted B next p.used × (p.at < 64)

-- a prefix is refuted, or nothing is contradicted, and r are the bits demanded 1
pub data Decided (B : Target) (next : ℕ → ℕ) (L : ℕ) (r : Result (List ℕ) Refuted) : Type 0 where
  refuted : (p : Refuted) → r ≡ Err p → p.used ≤ L → Contradicted B next p.used → p.at < 64 → Decided B next L r
  fits : (ones : List ℕ) → r ≡ Ok ones → length ones ≡ 12 → (Contradicted B next L → ⊥) → Ones B next L (λ e. get_or ones e 0) → Decided B next L r

-- a search through the candidates of k states and L entries: the first that is not refuted, with the bits demanded 1, or all are refuted
pub data Searched (B : Target) (k L : ℕ) (r : Option Found) : Type 0 where
  found : (f : Found) → r ≡ Some f → length f.ones ≡ 12 → f.number < k ^ L → ((d : ℕ) → d < f.number → Contradicted B (digit_of k L d) L)
      → Ones B (digit_of k L f.number) L (λ e. get_or f.ones e 0) → (Contradicted B (digit_of k L f.number) L → ⊥) → Searched B k L r
  none : r ≡ None → ((d : ℕ) → d < k ^ L → Contradicted B (digit_of k L d) L) → Searched B k L r
