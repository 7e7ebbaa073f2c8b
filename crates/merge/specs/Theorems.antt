-- What is proved of merging, cited by the call. b is a table.
use Rattle.std.specs.Prelude.{ℕ, ◌+◌, ◌*◌, ◌^◌, ◌<◌, ◌≡◌, ◌↔◌, List, length}
use Rattle.words.specs.Words.{word_at}
use Rattle.verdict.specs.Judgements.{answer}
use Rattle.sizes.specs.Sizes.{inputs, outputs, frames}
use Rattle.layered.specs.States.{Words}
use Rattle.layered.specs.Machines.{feed}
use Rattle.table.specs.Table.{connected, machine, checked}
use Rattle.merged.specs.Merged.{Merged}
use Rattle.merged.specs.Theorems.{Chosen, NoneMatches, Undecided}
use Rattle.merge.specs.Merge.{target, merge_bytes, narrow_checked, merge_checked, merge_result}

-- the machine that the bytes w are, for words below K: its state count, its outputs and its next states
abbrev pub machine_in : (K : ℕ) (w : List ℕ) → Merged
machine_in K w = record {
  states = word_at w 4;
  out = λ e. word_at w (6 + 2 * e);
  next = λ e. word_at w (6 + 2 * (word_at w 4 * K + e));
}

module _ (b : List ℕ) where
  abbrev K : ℕ
  K = 2 ^ inputs b

  -- the bytes that are written, as they are read
  pub record Merging : Type 0 where
    pub length_is : length (merge_bytes b) ≡ 6 + 4 * (word_at (merge_bytes b) 4 * K)
    pub inputs_at : word_at (merge_bytes b) 0 ≡ inputs b
    pub outputs-at : word_at (merge_bytes b) 2 ≡ outputs b
    -- they are a machine of one to three states that matches b; none of fewer states matches, and none of as many that matches comes before it
    pub chosen : Chosen (target b) (machine_in K (merge_bytes b))
    -- bits that no sequence decides are 0, and so are next states that none uses before the last frame
    pub undecided : Undecided (target b) (machine_in K (merge_bytes b))

  pub record Merges (room : ℕ) : Type 0 where
    -- a table that passes the checks is refused with 21 exactly when no machine of one to three states matches it, whatever the room
    pub unmatched : (p q : ℕ) → narrow_checked b ≡ answer 0 p → checked b ≡ answer 0 q → (merge_checked b room ≡ answer 21 0) ↔ NoneMatches (target b)
    -- a call that is accepted writes that machine
    pub written : (p : ℕ) → merge_checked b room ≡ answer 0 p → (p ≡ length (merge_bytes b)) × Merging

  -- a table d of equal sizes and connections that gives the same outputs on every sequence gets the same answer and the same bytes
  unfoldable pub MergesAlike : Type 0
  MergesAlike =
      (d : List ℕ) (p q : ℕ) → checked b ≡ answer 0 p → checked d ≡ answer 0 q → inputs b ≡ inputs d → outputs b ≡ outputs d → frames b ≡ frames d
      → ((t : ℕ) → t < frames b → connected b t ≡ connected d t)
      → ((c : List ℕ) → Words K (frames b) c → feed (machine b) 0 0 c ≡ feed (machine d) 0 0 c)
      → (before : List ℕ) → (merge_checked b (length before) ≡ merge_checked d (length before)) × (merge_result b before ≡ merge_result d before)
