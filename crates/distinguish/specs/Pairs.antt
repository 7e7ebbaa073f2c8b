-- Two states of a layer, as the code holds them.
use Rattle.std.specs.Prelude.{ℕ, ◌≤◌, ◌<◌, ◌≡◌, List}
use Rattle.sizes.specs.Sizes.{frames}
use Rattle.table.specs.Table.{states, entries_below}
use Rattle.distinguish.specs.declared.Pair.{Pair}

-- they are states of a layer of b, and so many entries stand below it
pub record PairOf (b : List ℕ) (pair : Pair) : Type 0 where
  pub layer_to : pair.layer ≤ frames b
  pub below_is : pair.below ≡ entries_below b pair.layer
  pub first_to : pair.first < states b pair.layer
  pub second_to : pair.second < states b pair.layer
