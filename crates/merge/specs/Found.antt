-- What the code has found, and where the layers of a table begin.
use Rattle.std.specs.Prelude.{ℕ, ◌+◌, ◌*◌, ◌≤◌, ◌<◌, ◌≡◌, List, ◌∷◌, ◌++◌, length, get_or, take, Option, None, Some}
use Rattle.sizes.specs.Sizes.{frames}
use Rattle.sizes.specs.declared.Sizes.{Sizes}
use Rattle.table.specs.Table.{entries_below, outputs_at}
use Rattle.merged.specs.Merged.{Same, entries_of, most_merged, fewest_states, first_machine}
use Rattle.merge.specs.declared.Fewest.{Fewest}
use Rattle.merge.specs.Merge.{target}

-- where the outputs of each layer of b begin
pub record StartsOf (b starts : List ℕ) : Type 0 where
  pub long : frames b ≤ length starts
  pub are : (t : ℕ) → t < frames b → get_or starts t 0 ≡ outputs_at b + 2 * entries_below b t

-- r is a machine of the fewest states, with the outputs and next states of the first
pub record FewestIs (b : List ℕ) (r : Fewest) : Type 0 where
  pub few : r.states ≤ most_merged
  pub states_are : r.states ≡ fewest_states (target b)
  pub outs_are : Same (entries_of (target b) r.states) (λ e. get_or r.outs e 0) (first_machine (target b)).out
  pub nexts_are : Same (entries_of (target b) r.states) (λ e. get_or r.nexts e 0) (first_machine (target b)).next
  pub outs_long : length r.outs ≡ 12
  pub nexts_long : length r.nexts ≡ 12

-- the machine that is written, where there is one
pub record FewestOf (b : List ℕ) (r : Option Fewest) : Type 0 where
  pub one : (f : Fewest) → r ≡ Some f → FewestIs b f
  pub none : r ≡ None → most_merged < fewest_states (target b)

-- the words of a machine as the code holds it
abbrev pub found_words : Sizes → Fewest → (entries : ℕ) → List ℕ
found_words sizes r entries = sizes.inputs ∷ sizes.outputs ∷ r.states ∷ take entries r.outs ++ take entries r.nexts
