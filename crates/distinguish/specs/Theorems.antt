-- What is proved of distinguishing words, cited by the call. b is a table, r and s are states of its layer t.
use Rattle.std.specs.Prelude.{ℕ, ◌-◌, ◌^◌, ◌≤◌, ◌<◌, ◌≡◌, ◌↔◌, true, false, List, [], length, take}
use Rattle.verdict.specs.Judgements.{answer}
use Rattle.sizes.specs.Sizes.{inputs, frames}
use Rattle.layered.specs.States.{Words}
use Rattle.layered.specs.Histories.{history_number}
use Rattle.layered.specs.Machines.{feed, masked}
use Rattle.table.specs.Table.{states, connected, machine}
use Rattle.folded.specs.Folded.{fold_checked, fold_result}
use Rattle.distinguish.specs.Distinguish.{separates, distinguishing, distinguish_checked}

module _ (b : List ℕ) (t r s : ℕ) where
  abbrev K : ℕ
  K = 2 ^ inputs b

  -- the words that are found
  abbrev found : List ℕ
  found = distinguishing b t r s

  -- of two states of a layer of an accepted table
  pub record Distinguishing : Type 0 where
    -- they are words of n bits, at most as many as can still be fed
    pub are_words : Words K (length found) found
    pub at_most : length found ≤ frames b - t
    -- if there are any, they separate the states
    pub separating : 1 ≤ length found → separates (machine b) t r s found ≡ true
    -- no fewer words do that
    pub none_shorter : (k : ℕ) (c : List ℕ) → Words K k c → 1 ≤ k → k < length found → separates (machine b) t r s c ≡ false
    -- nor do as many that come before them in word order
    pub none_before : (c : List ℕ) → Words K (length found) c → history_number K 0 c < history_number K 0 found → separates (machine b) t r s c ≡ false
    -- there are none exactly when every continuation gives both states the same outputs
    pub none_exactly : (found ≡ []) ↔ ((c : List ℕ) → Words K (frames b - t) c → feed (machine b) t r c ≡ feed (machine b) t s c)
    -- connected outputs alone are told apart: with all other bits 0 the same words separate the states
    pub by_connected : (k : ℕ) (c : List ℕ) → Words K k c → k ≤ frames b - t
        → separates (masked (connected b) (machine b)) t r s c ≡ separates (machine b) t r s c

-- a call that is accepted was given two states of a layer, and room for all words that can still be fed; its place is the number of words found
unfoldable pub Distinguishes : List ℕ → (t r s room : ℕ) → Type 0
Distinguishes b t r s room =
    (p : ℕ) → distinguish_checked b t r s room ≡ answer 0 p
    → (t ≤ frames b) × (r < states b t) × (s < states b t) × (frames b - t ≤ room) × (p ≡ length (distinguishing b t r s)) × Distinguishing b t r s

-- in what folding wrote, two different states of a layer always have some
unfoldable pub FoldedDistinguishes : List ℕ → (t r s : ℕ) → Type 0
FoldedDistinguishes b t r s =
    (d before : List ℕ) (room nodes p : ℕ) → fold_checked d room nodes (length before) ≡ answer 0 p → b ≡ take p (fold_result d room nodes before)
    → t ≤ frames b → r < states b t → s < states b t → ¬ (r ≡ s) → (1 ≤ length (distinguishing b t r s)) × (length (distinguishing b t r s) ≤ frames b - t)
