-- What is proved of a circuit b, its first frames d, and the tables t of b and s of d. A table is the machine that its bytes are, with start 0; the
-- state that a history comes to is `state_of`, and a class is all histories of a layer that come to one state.
use Rattle.std.specs.Prelude.{ℕ, ◌^◌, ◌≤◌, ◌≡◌, ◌↔◌, Bool, true, List, length, take}
use Rattle.verdict.specs.Judgements.{answer}
use Rattle.sizes.specs.Sizes.{inputs, outputs, frames}
use Rattle.layered.specs.States.{Words}
use Rattle.table.specs.Table.{states, checked}
use Rattle.folded.specs.Folded.{fold_checked, fold_result}
use Rattle.folded.specs.Theorems.{state_of, Folding}
use Rattle.price.specs.Price.{priced}
use Rattle.prefix.specs.FirstFrames.{FirstFrames}

-- of words below K and layers 0 to r
pub record Stage (K r : ℕ) (t s : List ℕ) : Type 0 where
  -- at no layer has s more states
  pub no_more_states : (k : ℕ) → k ≤ r → states s k ≤ states t k
  -- two histories that come to one state of t come to one of s
  pub one_state : (k : ℕ) (c d : List ℕ) → k ≤ r → Words K k c → Words K k d → state_of t c ≡ state_of t d → state_of s c ≡ state_of s d
  -- so each class of s is a union of classes of t: of those whose states in t are joined
  pub unions : (k x : ℕ) → k ≤ r → (joined : ℕ → Bool) × ((c : List ℕ) → Words K k c → (state_of s c ≡ x) ↔ (joined (state_of t c) ≡ true))
  -- both pass every check, and s costs at most what t costs
  pub both_pass : (checked s ≡ answer 0 0) × (checked t ≡ answer 0 0)
  pub no_dearer : (priced s).cents ≤ (priced t).cents

-- of whatever tables demands 2 and 3 hold, as they do of all that folding, committing and spreading write
unfoldable pub Stages : Type 0
Stages = (b d t s : List ℕ) → Folding (2 ^ inputs b) (outputs b) (frames b) b t → Folding (2 ^ inputs d) (outputs d) (frames d) d s → FirstFrames b d
    → Stage (2 ^ inputs b) (frames d) t s

-- of the bytes that folding wrote, whatever room it was given
unfoldable pub FoldedStages : Type 0
FoldedStages = (b before : List ℕ) (room nodes p : ℕ) → fold_checked b room nodes (length before) ≡ answer 0 p
    → (d before' : List ℕ) (room' nodes' q : ℕ) → fold_checked d room' nodes' (length before') ≡ answer 0 q → FirstFrames b d
    → Stage (2 ^ inputs b) (frames d) (take p (fold_result b room nodes before)) (take q (fold_result d room' nodes' before'))

-- and the first r frames of a circuit have one table: however two circuits are drawn that are both these, folding writes the same bytes
unfoldable pub OneTable : Type 0
OneTable = (b d before : List ℕ) (room nodes p : ℕ) → fold_checked d room nodes (length before) ≡ answer 0 p → FirstFrames b d
    → (e before' : List ℕ) (room' nodes' q : ℕ) → fold_checked e room' nodes' (length before') ≡ answer 0 q → FirstFrames b e → frames e ≡ frames d
    → take p (fold_result d room nodes before) ≡ take q (fold_result e room' nodes' before')
