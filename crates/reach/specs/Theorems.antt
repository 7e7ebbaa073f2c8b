-- What is proved of reach counts, cited by the call. b is a table that passes every check; t is a layer of it, s a state.
use Rattle.std.specs.Prelude.{ℕ, ◌+◌, ◌*◌, ◌^◌, ◌≤◌, ◌<◌, ◌≡◌, ◌↔◌, List, length, take}
use Rattle.words.specs.Words.{word_at, number_at}
use Rattle.verdict.specs.Judgements.{answer}
use Rattle.sizes.specs.Sizes.{inputs, frames}
use Rattle.layered.specs.Search.{total}
use Rattle.layered.specs.States.{Words}
use Rattle.layered.specs.Histories.{history_number}
use Rattle.table.specs.Table.{states, checked}
use Rattle.folded.specs.Folded.{fold_checked, fold_result}
use Rattle.folded.specs.Theorems.{state_of}
use Rattle.paths.specs.Places.{reach_head, all_states, histories_at, gap}
use Rattle.reach.specs.Reach.{histories_to, smallest_to, reach_bytes}

module _ (b : List ℕ) where
  abbrev K : ℕ
  K = 2 ^ inputs b

  -- the bytes, as they are read: none of the numbers is too large for its word
  pub record Written : Type 0 where
    pub length_is : length (reach_bytes b) ≡ reach_head b + 8 * all_states b
    pub frames_at : word_at (reach_bytes b) 0 ≡ frames b
    pub states_at : (t : ℕ) → t ≤ frames b → word_at (reach_bytes b) (2 + 2 * t) ≡ states b t
    pub histories-at : (t s : ℕ) → t ≤ frames b → s < states b t → number_at 4 (reach_bytes b) (histories_at b t s) ≡ histories_to b t s
    pub smallest_at : (t s : ℕ) → t ≤ frames b → s < states b t → number_at 4 (reach_bytes b) (histories_at b t s + gap b) ≡ smallest_to b t s

  pub record Reach : Type 0 where
    pub written : Written
    -- layer t adds up to 2^(n·t)
    pub sum : (t : ℕ) → t ≤ frames b → total (states b t) (histories_to b t) ≡ 2 ^ (inputs b * t)
    -- an unreached state, and no other, has 0 histories; its smallest history is 0 too
    pub unreached : (t s : ℕ) → (histories_to b t s ≡ 0) ↔ ((c : List ℕ) → Words K t c → state_of b c ≡ s → ⊥)
    pub unreached_zero : (t s : ℕ) → histories_to b t s ≡ 0 → smallest_to b t s ≡ 0
    -- a reached state's smallest history leads to it
    pub leads_there : (t s : ℕ) → 0 < histories_to b t s
        → (c : List ℕ) × Words K t c × (state_of b c ≡ s) × (history_number K 0 c ≡ smallest_to b t s)
    -- and no smaller one does
    pub none_smaller : (t : ℕ) (c : List ℕ) → Words K t c → smallest_to b t (state_of b c) ≤ history_number K 0 c

  -- where b is what folding a circuit d wrote: every state is reached, and smallest histories ascend with the state's number
  pub record FoldedReach : Type 0 where
    pub every_state : (t s : ℕ) → t ≤ frames b → s < states b t → 0 < histories_to b t s
    pub ascending : (t r s : ℕ) → t ≤ frames b → r < s → s < states b t → smallest_to b t r < smallest_to b t s

-- of every table that is accepted
unfoldable pub Reaches : List ℕ → Type 0
Reaches b = (p : ℕ) → checked b ≡ answer 0 p → Reach b

unfoldable pub FoldedReaches : List ℕ → Type 0
FoldedReaches b = (d before : List ℕ) (room nodes p : ℕ) → fold_checked d room nodes (length before) ≡ answer 0 p → b ≡ take p (fold_result d room nodes before)
    → FoldedReach b
